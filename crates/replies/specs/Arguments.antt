-- What the words of a command line ask for.
use Rattle.std.specs.Prelude.{ℕ, ◌+◌, ◌-◌, ◌*◌, cond, ◌&&◌, List, [], ◌∷◌, Some, None, Ok, Err, codes, Option, Result, nat_le}
use Rattle.std.specs.Str.{bytes_eq}
use Rattle.replies.specs.declared.arguments.KindName.{KindName}
use Rattle.replies.specs.declared.arguments.KindName.TheVariants.{Folded, Straight}
use Rattle.replies.specs.declared.arguments.Query.{Query}
use Rattle.replies.specs.declared.arguments.Misuse.{Misuse}
use Rattle.replies.specs.declared.arguments.Misuse.TheVariants.{Count, Kind, Lines, Nodes, Sender, Receiver}

abbrev pub kind_named : List ℕ → Option KindName
kind_named word = cond (bytes_eq word (codes "folded")) (Some Folded) (cond (bytes_eq word (codes "straight")) (Some Straight) None)

-- the value of a decimal digit
abbrev pub digit_of : ℕ → Option ℕ
digit_of b = cond (nat_le 48 b && nat_le b 57) (Some (b - 48)) None

-- the number that decimal digits go on to spell after a value; none at any other byte
abbrev pub spelled_on : ℕ → List ℕ → Option ℕ
spelled_on v [] = Some v
spelled_on v (b ∷ bs) = elim (digit_of b) [ None ↦ None | Some d ↦ spelled_on (10 * v + d) bs ]

-- a number that is at most a limit
abbrev pub at_most : ℕ → Option ℕ → Option ℕ
at_most most None = None
at_most most (Some v) = cond (nat_le v most) (Some v) None

-- a number in decimal digits and nothing else, at most a limit
abbrev pub number_in : ℕ → List ℕ → Option ℕ
number_in most [] = None
number_in most (b ∷ bs) = at_most most (spelled_on 0 (b ∷ bs))

-- what five words ask for, or the first of them that is wrong
abbrev pub query_of : List ℕ → List ℕ → List ℕ → List ℕ → List ℕ → Result Query Misuse
query_of kind m n sender receiver =
    elim (kind_named kind) [
      | None ↦ Err Kind
      | Some k ↦
          elim (number_in 255 m) [
            | None ↦ Err Lines
            | Some lines ↦
                elim (number_in 255 n) [
                  | None ↦ Err Nodes
                  | Some nodes ↦
                      elim (number_in 65535 sender) [
                        | None ↦ Err Sender
                        | Some s ↦
                            elim (number_in 65535 receiver) [
                              | None ↦ Err Receiver
                              | Some r ↦
                                  Ok (record { kind = k; sizes = record { m = lines; n = nodes }; transfer = record { sender = s; receiver = r } })
                            ]
                      ]
                ]
          ]
    ]

-- what the words ask for, where there are exactly five
unfoldable pub query_in : List (List ℕ) → Result Query Misuse
query_in (kind ∷ m ∷ n ∷ sender ∷ receiver ∷ []) = query_of kind m n sender receiver
query_in _ = Err Count

abbrev pub misuse_text : Misuse → List ℕ
misuse_text Count = codes "five arguments are wanted"
misuse_text Kind = codes "KIND must be folded or straight"
misuse_text Lines = codes "M must be a number from 0 to 255"
misuse_text Nodes = codes "N must be a number from 0 to 255"
misuse_text Sender = codes "SENDER must be a number from 0 to 65535"
misuse_text Receiver = codes "RECEIVER must be a number from 0 to 65535"
