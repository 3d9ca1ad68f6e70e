-- What a caller is told of a fault in an image: its number, the cell that it is about, and the layer that refuses.
use Rattle.std.specs.Prelude.{ℕ, List, ◌∷◌, ◌++◌, None, codes}
use Rattle.crossbar.specs.Refusals.{Refusal}
use Rattle.crossbar.specs.Text.{two_digits, five_digits}
use Rattle.image.specs.declared.refusal.Layer.{Layer}
use Rattle.image.specs.declared.refusal.Layer.TheVariants.{Image, Record, Booking, Fit}
use Rattle.image.specs.declared.refusal.ImageRefusal.{ImageRefusal}
use Rattle.image.specs.declared.refusal.ImageRefusal.TheVariants.{Length, Head, PastEnd, Visited, Kind, Spare, Label}

-- a refusal, the cell that it is about and the layer that refuses; cell 0 is the head
pub record Fault : Type 0 where
  pub refusal : Refusal
  pub cell : ℕ
  pub layer : Layer

-- a fault by its number, which is about no node
abbrev pub fault : ℕ → ℕ → Layer → Fault
fault number cell layer = record { refusal = record { number = number; node = None }; cell = cell; layer = layer }

-- every case of the code's enum, by its number and its values
abbrev pub image_fault : ImageRefusal → Fault
image_fault Length = fault 15 0 Image
image_fault Head = fault 16 0 Image
image_fault (PastEnd c) = fault 18 c Image
image_fault (Visited c) = fault 19 c Image
image_fault (Kind c) = fault 20 c Record
image_fault (Spare c) = fault 21 c Record
image_fault (Label c) = fault 22 c Record

-- I, R, B and F
abbrev pub layer_letter : Layer → ℕ
layer_letter Image = 73
layer_letter Record = 82
layer_letter Booking = 66
layer_letter Fit = 70

-- the number in two digits, the letter of the layer, and the cell in five digits
abbrev pub fault_words : ℕ → Layer → ℕ → List ℕ
fault_words number layer cell =
    codes "refused " ++ (two_digits number ++ (codes " " ++ (layer_letter layer ∷ (codes " " ++ five_digits cell))))

abbrev pub fault_text : Fault → List ℕ
fault_text f = fault_words f.refusal.number f.layer f.cell
