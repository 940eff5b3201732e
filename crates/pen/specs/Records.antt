-- The record words of one call and the room for them (01, "Path records").
use Rattle.std.specs.Prelude.{Bool, List, ◌++◌, leb, ℤ, pos, length, drop}
use Rattle.pen.specs.declared.records.Record.{Record}
use Rattle.pen.specs.declared.records.Record.TheVariants.{Move, Line, Curve, Close, Finish}

-- the first word of a record
abbrev pub kind_of : Record → ℤ
kind_of Move = pos 1
kind_of Line = pos 2
kind_of Curve = pos 3
kind_of Close = pos 4
kind_of Finish = pos 5

-- words at the start of what is lent, whose rest stands
unfoldable pub written : List ℤ → List ℤ → List ℤ
written ws out = ws ++ drop (length ws) out

-- whether words fit into what is lent
abbrev pub fits : List ℤ → List ℤ → Bool
fits ws out = leb (length ws) (length out)
