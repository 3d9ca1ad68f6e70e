-- The text of a listing.
use Rattle.std.specs.Prelude.{ℕ, List, ◌++◌, Some, None, Option, Result, codes, decimal}
use Rattle.std.specs.List.{flat_map}
use Rattle.crossbar.specs.Text.{five_digits}
use Rattle.ports.specs.declared.transfer.Transfer.{Transfer}
use Rattle.image.specs.declared.head.Head.{Head}
use Rattle.image.specs.Cells.{transfer_of, head_said}
use Rattle.image.specs.Faults.{Fault}
use Rattle.image.specs.Labels.{label_of}
use Rattle.image.specs.Meaning.{JobImage, cell}
use Rattle.image.specs.Readings.{collected}
use Rattle.image.specs.Records.{Parts, transfer_cell, note_text, foreign_body, NumberedRecord}
use Rattle.image.specs.Settled.{image_reading}
use Rattle.listings.specs.Quoted.{quoted}

-- what the head says
abbrev pub head_line : Head → List ℕ
head_line h =
    codes "00000 head m " ++ (decimal h.sizes.m ++ (codes " n " ++ (decimal h.sizes.n ++ (codes " R " ++ (decimal h.rounds ++ codes "\n")))))

-- a label; a sound record always has one, so that the other text is never printed
abbrev pub label_text : Option (List ℕ) → List ℕ
label_text (Some l) = quoted l
label_text None = codes "unlabelled"

-- a transfer with its label
abbrev pub transfer_text : Transfer → Option (List ℕ) → List ℕ
transfer_text t label = codes "transfer " ++ (decimal t.sender ++ (codes "->" ++ (decimal t.receiver ++ (codes " " ++ label_text label))))

-- a record by its case
abbrev pub record_text : List ℕ → List ℕ → Parts → List ℕ
record_text job site (transfer_cell c) = transfer_text (transfer_of c) (label_of job site c)
record_text job site (note_text t) = codes "note " ++ quoted t
record_text job site (foreign_body k _) = codes "foreign " ++ decimal k

-- the cell in five digits, and the record
unfoldable pub record_line : List ℕ → List ℕ → NumberedRecord → List ℕ
record_line job site x = five_digits x.number ++ (codes " " ++ (record_text job site x.parts ++ codes "\n"))

-- the line of the head and the lines of the records
abbrev pub image_lines : List ℕ → List ℕ → Head → List NumberedRecord → List ℕ
image_lines job site h xs = head_line h ++ flat_map (record_line job site) xs

-- the listing of what is read of an image, or the fault
abbrev pub listing_due : JobImage → Result (List ℕ) Fault
listing_due s = collected (image_lines s.job s.site (head_said (cell s 0))) (image_reading s)
