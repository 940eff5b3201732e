-- `place_free` meets its contract. The loop's invariant: the lists are lent as at the start, the walk has
-- come to stem `next`, and by each initial map that has the lines and the scale, the turns that are left,
-- taken from that stem on, give what all give. The measure is what is left of the count. Assumes nothing.
use borrow.Author.Rules.{rules}
use mathlib.Core.Path.{◌≡◌, refl, sym, ap}
use Prim.Native.Nat.{◌+◌, ◌-◌, ◌<◌}
use native.Mathlib.Omega.{arith}
use Rattle.stems.specs.Mask.{of_bytes}
use Rattle.stems.specs.Lists.{stems_in}
use Rattle.zones.specs.declared.state.HintState.{HintState}
use Rattle.hintmap.specs.declared.map.HintMap.{HintMap}
use Rattle.hintmap.specs.Lent.{Lent, LinesOf}
use Rattle.build.specs.Place.{Placed, free_turns}
use Rattle.build.specs.Made.{placed_in}
use Rattle.build.proofs.Rounds.{free-round}
use Rattle.build.proofs.Walks.{Rest, free-passing}
use Rattle.build.proofs.Hops.{Ahead, Hop, hop-first, hop-on}
use Rattle.build.proofs.Turns.{walk-starts, walk-goes, walk-ends}
use Rattle.build.proofs.place.place_free.Statement.{statement}
use Rattle.build.proofs.place.place_free.Tie as tie

abbrev invariant-loop : tie.invariant-loop-next
invariant-loop lines₀ tags₀ start rest scale stems count base size s₀ len₀ left₀ next₀ lines tags len left next =
    Lent lines tags len × (Ahead (of_bytes left) (of_bytes rest) next × ((st : HintState) (initial : HintMap) →
    st.scale ≡ scale → initial.scale ≡ s₀ → LinesOf initial base size →
    Rest (free_turns st initial) (stems_in stems count) count (placed_in lines₀ tags₀ start scale rest)
    (placed_in lines tags len scale rest) next))

abbrev decreases-loop : tie.decreases-loop-next
decreases-loop lines₀ tags₀ start rest scale stems count base size s₀ len₀ left₀ next₀ lines tags len left next = count
    - next

abbrev begin : (c : tie.At-loop-next invariant-loop decreases-loop) → tie.Start invariant-loop decreases-loop
begin c = c.before.before.before.before

-- ---- after the turn of stem `next`
module _ (c : tie.After-put_free-len invariant-loop decreases-loop) where
  abbrev taken : tie.After-take_first-next-in-loop-next invariant-loop decreases-loop
  taken = c.before.before.before

  abbrev at : tie.At-loop-next invariant-loop decreases-loop
  at = taken.before.before.before

  inside : at.loop-next.next < (begin at).args.count
  inside = taken.loop-next-test.true

  there : at.loop-next.next < 96
  there = omega (arith, (begin at).requires.1.0, inside)

  -- the walk goes on
  hops : Hop (of_bytes taken.take_first-next-in-loop-next.new.bytes) (of_bytes (begin at).args.rest.now)
      (at.loop-next.next + 1)
      taken.take_first-next-in-loop-next.result
  hops = hop-on at.loop-next.invariant.1.0 there taken.take_first-next-in-loop-next.ensures (λ j d. refl)

loop-holds : tie.Need-loop-next-init invariant-loop decreases-loop
loop-holds c =
    let s = c in (
      s.requires.0,
      (
        (hop-first c.take_first-next.ensures).ahead,
        λ st initial p q h. walk-starts (free-round st initial) (free-passing st initial) _ _ s.requires.1.0 _
            c.take_first-next.ensures,
      ),
    )

put-free-requires : tie.Need-put_free-len-requires invariant-loop decreases-loop
put-free-requires c κs =
    let a = c.before.before.before.before.before in
    (a.loop-next.invariant.0, (search rules, (begin a).requires.1.1))

loop-less : tie.Need-loop-next-smaller invariant-loop decreases-loop
loop-less c = omega (arith, (hops c).on, inside c)

loop-again : tie.Need-loop-next-preserved invariant-loop decreases-loop
loop-again c = (
  c.put_free-len.ensures.lent,
  (
    (hops c).ahead,
    λ st initial p q h. walk-goes (free-round st initial) (free-passing st initial) _ _ (begin (at c)).requires.1.0 _ _
        _ (inside c) (hops c)
        (sym (c.put_free-len.ensures.placed st initial _ p q h ((at c).loop-next.invariant.1.0.active (there c))))
        ((at c).loop-next.invariant.1.1 st initial p q h),
  ),
)

returns : tie.Need-returns invariant-loop decreases-loop
returns c =
    let at = c.before in
    record {
      lent = at.loop-next.invariant.0;
      map = λ st initial p q h. ap (λ (o : Placed). o.map)
          (walk-ends (free-round st initial) (free-passing st initial) _ _ (begin at).requires.1.0 _ _ at.loop-next.next
          (search rules)
          (at.loop-next.invariant.1.1 st initial p q h));
    }

pub place_free_spec : {M : Type 1} → statement M
place_free_spec =
    tie.close
    (tie.spec invariant-loop decreases-loop (λ c κs. search rules) loop-holds (λ c κs. search rules) put-free-requires
    loop-less
    loop-again returns)
