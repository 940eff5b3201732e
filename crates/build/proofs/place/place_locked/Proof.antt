-- `place_locked` meets its contract. The loop's invariant: the lists are lent as at the start, the walk
-- has come to stem `next`, and whatever initial map is given, the turns that are left, taken from that
-- stem on, give what all give. The measure is what is left of the count. Assumes nothing.
use borrow.Author.Rules.{rules}
use mathlib.Core.Path.{sym}
use mathlib.Core.Bool.{Bool, false}
use Prim.Native.Nat.{◌+◌, ◌-◌, ◌<◌}
use native.Mathlib.Omega.{arith}
use Rattle.stems.specs.Mask.{of_bytes}
use Rattle.stems.specs.Lists.{stems_in}
use Rattle.zones.specs.declared.state.HintState.{HintState}
use Rattle.zones.specs.Numbers.{state_in}
use Rattle.hintmap.specs.declared.map.HintMap.{HintMap}
use Rattle.hintmap.specs.Map.{new_map}
use Rattle.hintmap.specs.Lent.{Lent}
use Rattle.build.specs.Place.{Placed, locked_turns}
use Rattle.build.specs.Made.{placed_in}
use Rattle.build.proofs.Rounds.{locked-round}
use Rattle.build.proofs.Walks.{Rest, locked-passing}
use Rattle.build.proofs.Hops.{Ahead, Hop, hop-first}
use Rattle.build.proofs.Turns.{walk-starts, walk-hops, walk-goes, walk-ends}
use Rattle.build.proofs.place.place_locked.Statement.{statement}
use Rattle.build.proofs.place.place_locked.Tie as tie

abbrev invariant-loop : tie.invariant-loop-next
invariant-loop lines₀ tags₀ start rest₀ gauge zones stems count len₀ active₀ next₀ lines tags rest len active next =
    Lent lines tags len × (Ahead (of_bytes active) (of_bytes rest) next × ((initial : HintMap) (given : Bool) →
    Rest (locked_turns (state_in gauge zones) initial given) (stems_in stems count) count
    (placed_in lines₀ tags₀ start gauge.scale rest₀) (placed_in lines tags len gauge.scale rest) next))

abbrev decreases-loop : tie.decreases-loop-next
decreases-loop lines₀ tags₀ start rest₀ gauge zones stems count len₀ active₀ next₀ lines tags rest len active next =
    count - next

abbrev begin : (c : tie.At-loop-next invariant-loop decreases-loop) → tie.Start invariant-loop decreases-loop
begin c = c.before.before.before.before

abbrev st : (c : tie.At-loop-next invariant-loop decreases-loop) → HintState
st c = state_in (begin c).args.gauge (begin c).args.zones.now

-- ---- after the turn of stem `next`
module _ (c : tie.After-put_locked-len invariant-loop decreases-loop) where
  abbrev taken : tie.After-take_first-next-in-loop-next invariant-loop decreases-loop
  taken = c.before.before.before.before

  abbrev at : tie.At-loop-next invariant-loop decreases-loop
  at = taken.before.before.before

  abbrev so_far : Placed
  so_far = placed_in at.loop-next.lines at.loop-next.tags at.loop-next.len (st at).scale at.loop-next.rest

  inside : at.loop-next.next < (begin at).args.count
  inside = taken.loop-next-test.true

  -- the walk goes on, and it does not matter by which initial map
  hops : Hop (of_bytes taken.take_first-next-in-loop-next.new.bytes) (of_bytes c.put_locked-len.new.rest)
      (at.loop-next.next + 1)
      taken.take_first-next-in-loop-next.result
  hops =
      walk-hops (locked-round (st at) (new_map (st at).scale) false)
      (locked-passing (st at) (new_map (st at).scale) false) (begin at).args.stems.now
      (begin at).args.count (begin at).requires.1 so_far so_far _ inside at.loop-next.invariant.1.0
      taken.take_first-next-in-loop-next.ensures (sym (c.put_locked-len.ensures.placed (new_map (st at).scale) false))

loop-holds : tie.Need-loop-next-init invariant-loop decreases-loop
loop-holds c =
    let s = c in (
      s.requires.0,
      (
        (hop-first c.take_first-next.ensures).ahead,
        λ initial given. walk-starts (locked-round (state_in s.args.gauge s.args.zones.now) initial given)
            (locked-passing (state_in s.args.gauge s.args.zones.now) initial given)
            _ _ s.requires.1 _ c.take_first-next.ensures,
      ),
    )

put-locked-requires : tie.Need-put_locked-len-requires invariant-loop decreases-loop
put-locked-requires c κs =
    let a = c in (
      a.loop-next.invariant.0,
      record { there = search rules; active = a.loop-next.invariant.1.0.active (search rules) },
    )

loop-less : tie.Need-loop-next-smaller invariant-loop decreases-loop
loop-less c = omega (arith, (hops c).on, inside c)

loop-again : tie.Need-loop-next-preserved invariant-loop decreases-loop
loop-again c = (
  c.put_locked-len.ensures.lent,
  (
    (hops c).ahead,
    λ initial given. walk-goes (locked-round (st (at c)) initial given) (locked-passing (st (at c)) initial given) _ _
        (begin (at c)).requires.1 _ _ _ (inside c)
        (hops c) (sym (c.put_locked-len.ensures.placed initial given)) ((at c).loop-next.invariant.1.1 initial given),
  ),
)

returns : tie.Need-returns invariant-loop decreases-loop
returns c =
    let at = c.before in
    record {
      lent = at.loop-next.invariant.0;
      placed = λ initial given. walk-ends (locked-round (st at) initial given) (locked-passing (st at) initial given) _
          _ (begin at).requires.1 _ _
          at.loop-next.next (search rules) (at.loop-next.invariant.1.1 initial given);
    }

pub place_locked_spec : {M : Type 1} → statement M
place_locked_spec =
    tie.close
    (tie.spec invariant-loop decreases-loop (λ c κs. search rules) loop-holds (λ c κs. search rules) put-locked-requires
    loop-less
    loop-again returns)
