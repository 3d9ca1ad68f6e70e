-- The book that a table stands for.
use Rattle.std.specs.Prelude.{vec_items}
use Rattle.bookings.specs.declared.table.Table.{Table}
use Rattle.bookings.specs.Model.{Model}

abbrev pub model : Table → Model
model t = record { m = t.sizes.m; n = t.sizes.n; rounds = t.rounds; given = t.given; live = vec_items t.live }
