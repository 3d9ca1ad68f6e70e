-- What only the contracts of private functions cite.
use Rattle.spinesets.specs.declared.assigned.Assigned.{Assigned}
use Rattle.ports.specs.declared.transfer.Transfer.{Transfer}

-- a transfer that has not got a spine yet: spine 0 stands in its place
abbrev pub unassigned : Transfer → Assigned
unassigned t = record { transfer = t; spine = 0 }
