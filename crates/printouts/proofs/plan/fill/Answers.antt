-- An accepted load leaves the book of the image.
use Rattle.book.specs.Books.{drafted}
use Rattle.printouts.proofs.Planning.{load_accepted}
use Rattle.printouts.proofs.plan.fill.Goals as goal

pub returns-clause-answer : goal.returns-clause-answer
returns-clause-answer c =
    load_accepted (drafted c.args.draft.now) c.args.image.now c.requires (drafted c.fit_to.new.draft) c.in_ok-fit_to.ensures
    _ (drafted c.load.new.self) c.in_ok-load.ensures.answer c.load.ensures.book
