-- `Sizes::with_stem` meets its contract, by its two tests: those of the hints that lists keep. Assumes
-- nothing.
use Rattle.std.proofs.Common.{rules, arith, ◌≡◌, ◌&&◌, not, Bool, true, false, List, ℕ, ◌+◌, ℤ, length}
use lib.Dec.{ltb}
use borrow.Author.Tests.{lt-ltb, le-ltb}
use Rattle.fixed.specs.declared.Fixed.{Fixed}
use Rattle.stems.specs.Lists.{stems_in}
use Rattle.stems.proofs.Places.{stem-put, set_long, stems-long}
use Rattle.zones.specs.declared.state.HintState.{HintState}
use Rattle.build.proofs.Declared.{one_alike}
use Rattle.hints.specs.declared.hints.Hints.{Hints}
use Rattle.hints.specs.Hints.{with_stem, stem_by, unused_stem}
use Rattle.run.specs.declared.kept.Sizes.{Sizes}
use Rattle.run.specs.Kept.{Kept, Stemmed}
use Rattle.run.proofs.kept.Sizes.with_stem.Goals as goal

module _ (z : Sizes) (ns : List ℤ) (min max : Fixed) where
  -- the tests of the hints are those of the sizes
  asked : {st : HintState} {h : Hints} {bs : List ℕ} {is ms : List ℤ} (t : Bool) →
      not z.valid && ltb z.stems 96 ≡ t → Kept st h z bs ns is ms → with_stem min max h ≡ stem_by t min max h
  unfolding with_stem stems_in
  asked t e k = rw (k.map.valid, k.stems.count, e)

  -- a stem that is not taken
  ignored : length ns ≡ 480 → not z.valid && ltb z.stems 96 ≡ false → Stemmed z ns min max z ns
  ignored long e = record { long = long; kept = λ st h bs is ms k. rw (asked false e k) k }

pub returns-then-self : goal.returns-then-self
returns-then-self c =
    let a = c.args in
    ignored a.self a.stems.now a.min a.max (search rules) (rw c.if-self.true)

pub returns-then-count-lt-MAX_HINTS : goal.returns-then-count-lt-MAX_HINTS
unfolding stems_in
returns-then-count-lt-MAX_HINTS c =
    let a = c.args in
    let p = c.if-count-lt-MAX_HINTS.true in
    let ns = a.stems.now in
    let n = a.self.stems in
    let e = c.put_stem.ensures in
    let stem = unused_stem a.min a.max in
    let long : length ns ≡ 480 = search rules in
    record {
      long = rw e (set_long ns long n p stem);
      kept = λ st h bs is ms k. rw (asked a.self ns a.min a.max true (rw c.if-self.false (lt-ltb n 96 p)) k)
          record {
            stems =
                rw (e, stem-put ns long n p stem (n + 1))
                (one_alike h.stems (stems_in ns n) k.stems stem
                (omega (arith, k.stems.count, k.stems.room, stems-long ns n)));
            mask = k.mask;
            initial = k.initial;
            map = k.map;
          };
    }

pub returns : goal.returns
returns c =
    let a = c.args in
    ignored a.self a.stems.now a.min a.max (search rules)
    (rw c.if-self.false (le-ltb _ 96 c.if-count-lt-MAX_HINTS.false))
