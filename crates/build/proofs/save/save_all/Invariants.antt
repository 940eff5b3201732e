-- The loop's invariant of `save_all`: the edges from `i` on, saved in the stems so far, give what all edges
-- give saved in the first stems. Assumes nothing.
use Rattle.std.proofs.Common.{◌≡◌, ℕ, length, drop}
use Rattle.stems.specs.Lists.{held, stems_in}
use Rattle.build.specs.Build.{saved_all}
use Rattle.build.proofs.save.save_all.Given as goal

abbrev pub invariant-loop-i : goal.invariant-loop-i
invariant-loop-i l =
    (length l.stems ≡ 480) × ((n : ℕ) → saved_all (held l.lines l.tags l.len) (stems_in l.fn.stems n) ≡
    saved_all (drop l.i (held l.lines l.tags l.len)) (stems_in l.stems n))
