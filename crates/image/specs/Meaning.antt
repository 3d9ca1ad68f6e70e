-- What an image means: the records that its chain comes to, in their order. And what is wrong with one that means nothing.
-- Nothing here is about how an image is read.
use Rattle.std.specs.Prelude.{◌≡◌, ℕ, ◌+◌, ◌%◌, ◌<◌, ◌≤◌, ◌≢◌, ◌⊎◌, List, [], ◌∷◌, length, take, Some, None, ⊤}
use Rattle.std.specs.List.{flat_map}
use Rattle.ports.specs.declared.transfer.Transfer.{Transfer}
use Rattle.image.specs.declared.labels.Texts.{Texts}
use Rattle.image.specs.declared.refusal.Layer.TheVariants.{Image, Record as RecordLayer}
use Rattle.image.specs.Cells.{byte, word, cells_of, cell_at, next_index}
use Rattle.image.specs.Faults.{Fault, fault}
use Rattle.image.specs.Records.{Parts, transfer_cell, note_text, foreign_body, NumberedRecord, body_of, transfer_held}

-- the bytes of an image, and the two texts that labels are parts of
pub record JobImage : Type 0 where
  pub bytes : List ℕ
  pub job : List ℕ
  pub site : List ℕ

abbrev pub job_image : List ℕ → List ℕ → List ℕ → JobImage
job_image bytes job site = record { bytes = bytes; job = job; site = site }

-- those of an image, with the two texts as a caller hands them over
abbrev pub with_texts : List ℕ → Texts → JobImage
with_texts bytes texts = job_image bytes texts.job.now texts.site.now

-- how many cells there are
abbrev pub cell_count : JobImage → ℕ
cell_count s = length (cells_of s.bytes)

-- the cell with a number
abbrev pub cell : JobImage → ℕ → List ℕ
cell s c = cell_at (cells_of s.bytes) c

-- a length of 1 to 2,048 whole cells
pub record IsImageLength (n : ℕ) : Type 0 where
  pub least : 16 ≤ n
  pub most : n ≤ 32768
  pub whole : n % 16 ≡ 0

-- the bytes of a cell from byte low on, below byte high, are zero
abbrev pub AreZero : List ℕ → ℕ → ℕ → Type 0
AreZero c low high = (k : ℕ) → low ≤ k → k < high → byte c k ≡ 0

-- a head has the mark 52 42 4B 31, and its spare bytes are zero
pub record IsHead (c : List ℕ) : Type 0 where
  pub mark : take 4 c ≡ 0x52 ∷ 0x42 ∷ 0x4B ∷ 0x31 ∷ []
  pub spare : AreZero c 7 8
  pub rest : AreZero c 10 16

-- the label of a cell lies within the job text, or within the site sheet, as its source says
abbrev pub IsLabelled : List ℕ → List ℕ → List ℕ → Type 0
IsLabelled job site c =
    ((byte c 11 ≡ 0) × (word c 8 + byte c 10 ≤ length job)) ⊎ ((byte c 11 ≡ 1) × (word c 8 + byte c 10 ≤ length site))

-- the spare bytes of a transfer are zero
abbrev pub HasZeroSpare : List ℕ → Type 0
HasZeroSpare c = AreZero c 1 2 × AreZero c 12 16

-- the cell is a sound record, with these parts
pub data IsRecord (job site c : List ℕ) : Parts → Type 0 where
  is_transfer : byte c 0 ≡ 1 → HasZeroSpare c → IsLabelled job site c → IsRecord job site c (transfer_cell c)
  is_note : byte c 0 ≡ 2 → AreZero c 1 2 → IsRecord job site c (note_text (body_of c))
  is_foreign : 128 ≤ byte c 0 → IsRecord job site c (foreign_body (byte c 0) (body_of c))

-- what is wrong with the cell, whose number is told with it
pub data IsUnsound (job site : List ℕ) (number : ℕ) (c : List ℕ) : Fault → Type 0 where
  no_kind : (byte c 0 ≡ 0) ⊎ ((3 ≤ byte c 0) × (byte c 0 < 128)) → IsUnsound job site number c (fault 20 number RecordLayer)
  transfer_spare_set : byte c 0 ≡ 1 → (HasZeroSpare c → ⊥) → IsUnsound job site number c (fault 21 number RecordLayer)
  note_spare_set : byte c 0 ≡ 2 → (AreZero c 1 2 → ⊥) → IsUnsound job site number c (fault 21 number RecordLayer)
  not_labelled : byte c 0 ≡ 1 → HasZeroSpare c → (IsLabelled job site c → ⊥) → IsUnsound job site number c (fault 22 number RecordLayer)

-- the index i is that of a cell of the image, which is not the head, and x is the sound record of that cell
pub record IsRecordAt (s : JobImage) (i : ℕ) (x : NumberedRecord) : Type 0 where
  pub number : x.number ≡ i
  pub record_cell : 0 < i
  pub within : i < cell_count s
  pub sound : IsRecord s.job s.site (cell s i) x.parts

-- the records follow one another: the cell h holds the index i of the first, the cell of each holds the index of the next, and
-- the last of these cells, g, holds the index e; where there are no records, g is h and e is i
abbrev pub Leads : JobImage → ℕ → ℕ → List NumberedRecord → ℕ → ℕ → Type 0
Leads s h i [] g e = (h ≡ g) × (i ≡ e)
Leads s h i (x ∷ xs) g e = IsRecordAt s i x × Leads s i (next_index (cell s i)) xs g e

-- no record has the cell c
abbrev pub IsNotIn : ℕ → List NumberedRecord → Type 0
IsNotIn c [] = ⊤
IsNotIn c (x ∷ xs) = (c ≢ x.number) × IsNotIn c xs

-- no two records have the same cell
abbrev pub AreApart : List NumberedRecord → Type 0
AreApart [] = ⊤
AreApart (x ∷ xs) = IsNotIn x.number xs × AreApart xs

-- length and head of the image are right, the records follow one another from the index in the head to the index e, which the
-- cell g holds, and no cell comes twice
pub record Reaches (s : JobImage) (xs : List NumberedRecord) (g e : ℕ) : Type 0 where
  pub long : IsImageLength (length s.bytes)
  pub head : IsHead (cell s 0)
  pub leads : Leads s 0 (word (cell s 0) 8) xs g e
  pub apart : AreApart xs

-- the image means the records: the last cell g holds the index 0
abbrev pub Means : JobImage → List NumberedRecord → Type 0
Means s xs = (g : ℕ) × Reaches s xs g 0

-- the transfers of the transfer records, in that order
abbrev pub record_transfers : NumberedRecord → List Transfer
record_transfers x = elim (transfer_held x.parts) [ None ↦ [] | Some t ↦ t ∷ [] ]

abbrev pub transfers : List NumberedRecord → List Transfer
transfers xs = flat_map record_transfers xs

-- the image means the transfers: those of the records that it means
abbrev pub MeansTransfers : JobImage → List Transfer → Type 0
MeansTransfers s ts = (xs : List NumberedRecord) × Means s xs × (transfers xs ≡ ts)

-- why nothing can come after the records, at the index e, which the cell g holds
pub data IsStuck (s : JobImage) (xs : List NumberedRecord) (g e : ℕ) : Fault → Type 0 where
  past_end : cell_count s ≤ e → IsStuck s xs g e (fault 18 g Image)
  visited : e < cell_count s → (IsNotIn e xs → ⊥) → IsStuck s xs g e (fault 19 g Image)
  unsound : (f : Fault) → e < cell_count s → IsNotIn e xs → IsUnsound s.job s.site e (cell s e) f → IsStuck s xs g e f

-- what is wrong with an image that means nothing
pub data Fails (s : JobImage) : Fault → Type 0 where
  no_length : (IsImageLength (length s.bytes) → ⊥) → Fails s (fault 15 0 Image)
  no_head : IsImageLength (length s.bytes) → (IsHead (cell s 0) → ⊥) → Fails s (fault 16 0 Image)
  stuck : (xs : List NumberedRecord) (g e : ℕ) (f : Fault) → Reaches s xs g e → 0 < e → IsStuck s xs g e f → Fails s f
