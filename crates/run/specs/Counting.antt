-- How many words calls write (request 5): by the trail of the pen alone, whatever the hints are.
use Rattle.std.specs.Prelude.{List, [], ◌∷◌, ℕ, ◌+◌}
use Rattle.pen.specs.declared.counting.Trail.{Trail}
use Rattle.pen.specs.declared.counting.Counted.{Counted}
use Rattle.pen.specs.Counting.{count_of}
use Rattle.hints.specs.Calls.{Call, stem, hint_mask, counter_mask, clear, close, draw}
use Rattle.run.specs.Run.{Asked}

-- a call that is not drawn writes nothing
abbrev pub unwritten : Trail → Counted
unwritten t = record { trail = t; words = 0 }

abbrev pub count_for : Trail → Call → Counted
count_for t (stem min max) = unwritten t
count_for t (hint_mask m) = unwritten t
count_for t (counter_mask m) = unwritten t
count_for t clear = unwritten t
count_for t close = unwritten t
count_for t (draw p) = count_of t p

-- the words of calls, first to last
unfoldable pub count_along : Trail → List Asked → ℕ
count_along t [] = 0
count_along t (c ∷ cs) = (count_for t c.call).words + count_along (count_for t c.call).trail cs
