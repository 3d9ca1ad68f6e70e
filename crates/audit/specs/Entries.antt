-- Calls with their answers, and images, of which histories are written out.
use Rattle.std.specs.Prelude.{ℕ, List, [], ◌∷◌, ◌++◌, Ok}
use Rattle.image.specs.Meaning.{JobImage, job_image}
use Rattle.audit.specs.History.{Asked, fit, book, cancel, need, issue, seat, header, reopen, Told, fit_answer, book_answer, cancel_answer, need_answer, issue_answer, seat_answer, header_answer, reopen_answer, History}

-- a fit that is accepted
abbrev pub fitted_to : ℕ → ℕ → ℕ → Asked × Told
fitted_to m n R = (fit m n R, fit_answer (Ok tt))

-- a booking from one node to another, and its ticket
abbrev pub booked_as : ℕ → ℕ → ℕ → Asked × Told
booked_as s r k = (book (record { sender = s; receiver = r }), book_answer (Ok k))

-- a cancel that is accepted, with the two nodes
abbrev pub cancelled_from : ℕ → ℕ → ℕ → Asked × Told
cancelled_from k s r = (cancel k, cancel_answer (Ok (s, r)))

-- the number of rounds needed
abbrev pub needed : ℕ → Asked × Told
needed k = (need, need_answer k)

-- an issue
abbrev pub issued : Asked × Told
issued = (issue, issue_answer)

-- a reopening
abbrev pub reopened : Asked × Told
reopened = (reopen, reopen_answer)

-- a ticket with its seat
abbrev pub seated_at : ℕ → ℕ → ℕ → Asked × Told
seated_at k round spine = (seat k, seat_answer (Ok (round, spine)))

-- a ticket with its header
abbrev pub headed_by : ℕ → ℕ × ℕ × ℕ → Asked × Told
headed_by k h = (header k, header_answer (Ok h))

-- a transfer is booked, and issued twice
abbrev pub issued_two_times : History
issued_two_times = booked_as 0 0 1 ∷ issued ∷ reopened ∷ issued ∷ []

-- ---- images

-- an image without a byte
abbrev pub no_bytes : JobImage
no_bytes = job_image [] [] []

-- the head of an image for one line of one node and R rounds; the first record is that of cell 1
abbrev pub head_bytes : ℕ → List ℕ
head_bytes R = 0x52 ∷ 0x42 ∷ 0x4B ∷ 0x31 ∷ 1 ∷ 1 ∷ R ∷ 0 ∷ 1 ∷ 0 ∷ 0 ∷ 0 ∷ 0 ∷ 0 ∷ 0 ∷ 0 ∷ []

-- a transfer from node 0 to node 0 with an empty label, and the index of the next record's cell
abbrev pub transfer_bytes : ℕ → List ℕ
transfer_bytes next = 1 ∷ 0 ∷ next ∷ 0 ∷ 0 ∷ 0 ∷ 0 ∷ 0 ∷ 0 ∷ 0 ∷ 0 ∷ 0 ∷ 0 ∷ 0 ∷ 0 ∷ 0 ∷ []

-- an image of one such transfer
abbrev pub one_transfer : JobImage
one_transfer = job_image (head_bytes 1 ++ transfer_bytes 0) [] []

-- an image of two, for R rounds
abbrev pub two_transfers : ℕ → JobImage
two_transfers R = job_image (head_bytes R ++ (transfer_bytes 2 ++ transfer_bytes 0)) [] []

-- an image of one, after which a cell is named that is not there
abbrev pub broken_chain : JobImage
broken_chain = job_image (head_bytes 1 ++ transfer_bytes 9) [] []
