-- What a caller is told of an image that gets no timetable.
use Rattle.crossbar.specs.Refusals.{Refusal}
use Rattle.image.specs.declared.refusal.Layer.TheVariants.{Fit as FitLayer}
use Rattle.image.specs.Faults.{Fault}
use Rattle.bookings.specs.Faults.{load_fault}
use Rattle.bookings.specs.Refusals.{fit_refusal}
use Rattle.printouts.specs.declared.refusal.PlanRefusal.{PlanRefusal}
use Rattle.printouts.specs.declared.refusal.PlanRefusal.TheVariants.{Fit, Load}

-- a refused fit, as a fault of the head
abbrev pub fit_fault : Refusal → Fault
fit_fault e = record { refusal = e; cell = 0; layer = FitLayer }

-- every case of the code's enum, by its number and its values
abbrev pub plan_fault : PlanRefusal → Fault
plan_fault (Fit e) = fit_fault (fit_refusal e)
plan_fault (Load e) = load_fault e
