-- `run_by` does the commands first to last, over hints that lists keep. Assumes nothing.
use Rattle.std.proofs.Common.{rules, arith, sym, ap, ◌∙◌, ◌≡◌, ◌<◌, ◌*◌, ℕ, length, drop}
use lib.ListN.{length-drop}
use borrow.Author.Tests.{leb-true}
use Rattle.zones.specs.Numbers.{state_in}
use Rattle.pen.proofs.Lent.{lent, back}
use Rattle.pen.proofs.Drew.{drew-wrote, drew-refused}
use Rattle.hints.specs.Path.{stroke_by}
use Rattle.commands.specs.declared.reading.Command.{Command}
use Rattle.commands.specs.declared.reading.Read.{Read}
use Rattle.commands.specs.Commands.{read_at, next_at}
use Rattle.commands.proofs.Laws.{next-is}
use Rattle.run.proofs.Reading.{mask-there}
use Rattle.run.proofs.Turns.{turn-done, unready, unready-one, wanted}
use Rattle.run.proofs.Keeping.{starts, closes, marks, readies, draws, refuses}
use Rattle.run.proofs.running.run_by.Goals as goal

-- the command that was read, and the word behind it
module _ {r : Read} (w : ℕ → ℕ) (n i : ℕ) (e : r ≡ read_at w n i) where
  command-is : {k : Command} → r.command ≡ k → (read_at w n i).command ≡ k
  command-is f = sym (ap (λ (x : Read). x.command) e) ∙ f

  moved : r.next ≡ next_at w i
  moved = ap (λ (x : Read). x.next) e ∙ next-is w n i

pub loop-at-init : goal.loop-at-init
loop-at-init c =
    let a = c.args in (
      rw (c.none-sizes.ensures, c.new-pen.ensures)
          (starts (state_in a.gauge a.zones.now) a.script.now _ a.first a.n a.from a.out.now _ _ _ _ c.requires.1
          (search rules) (record { all = search rules; named = search rules }) (search rules)),
      search rules,
    )

pub loop-at-smaller-then-is_close : goal.loop-at-smaller-then-is_close
loop-at-smaller-then-is_close c = omega (arith, moved _ _ _ c.read_by-read.ensures, c.loop-at-test.true)

pub loop-at-preserved-then-is_close : goal.loop-at-preserved-then-is_close
loop-at-preserved-then-is_close c =
    let i = c.loop-at.invariant in
    let e = c.read_by-read.ensures in (
      rw (moved _ _ _ e)
          (closes _ _ _ _ _ _ _ _ _ _ _ _ _ _ _ _ _ i.0 c.loop-at-test.true (command-is _ _ _ e c.in-Mark.is)
          (sym c.is_close.ensures ∙ c.if-is_close.true)),
      i.1,
    )

pub marked-sizes-requires : goal.marked-sizes-requires
marked-sizes-requires c =
    let i = c.loop-at.invariant.0 in
    let e = c.read_by-read.ensures in
    (mask-there i.goes.sound c.loop-at-test.true (command-is _ _ _ e c.in-Mark.is), i.kept.initial.fits)

pub loop-at-smaller-in-Mark : goal.loop-at-smaller-in-Mark
loop-at-smaller-in-Mark c =
    omega (arith, moved _ _ _ c.read_by-read.ensures, c.loop-at-test.true, unready-one c.marked-sizes.result.valid)

pub loop-at-preserved-in-Mark : goal.loop-at-preserved-in-Mark
loop-at-preserved-in-Mark c =
    let e = c.read_by-read.ensures in
    let m = c.marked-sizes.ensures in (
      rw (moved _ _ _ e, m.1.0)
          (marks _ _ _ _ _ _ _ _ _ _ _ _ _ _ _ _ _ c.loop-at.invariant.0 c.loop-at-test.true _ _ _ _ _
          (command-is _ _ _ e c.in-Mark.is) m.0),
      m.1.1,
    )

pub loop-at-smaller-then-wants_map : goal.loop-at-smaller-then-wants_map
loop-at-smaller-then-wants_map c =
    let want = wanted c.loop-at.sizes.valid c.in-Draw.path (sym c.wants_map.ensures ∙ c.if-wants_map.true) in
    omega (arith, ap unready c.ready-sizes.ensures.0.valid, ap unready want.0)

pub loop-at-preserved-then-wants_map : goal.loop-at-preserved-then-wants_map
loop-at-preserved-then-wants_map c =
    let want = wanted c.loop-at.sizes.valid c.in-Draw.path (sym c.wants_map.ensures ∙ c.if-wants_map.true) in (
      readies _ _ _ _ _ _ _ _ _ _ _ _ _ _ _ _ _ c.loop-at.invariant.0 c.loop-at-test.true _ _ _ _ _
          (command-is _ _ _ c.read_by-read.ensures c.in-Draw.is) want.1 want.0 c.ready-sizes.ensures.0,
      c.ready-sizes.ensures.1,
    )

pub returns-in_default : goal.returns-in_default
returns-in_default c =
    let l = c.loop-at in
    let i = l.invariant.0 in
    let k = i.kept.map in
    let drew = rw (lent l.out l.next) at (c.draw_by_lines-drawn.ensures i.hints.map k.scale k.lines) in
    rw (back l.next l.out)
    (refuses _ _ _ _ _ _ _ _ _ _ _ _ _ _ _ _ _ i c.loop-at-test.true _ _
    (command-is _ _ _ c.read_by-read.ensures c.in-Draw.is) (sym c.wants_map.ensures ∙ c.if-wants_map.false)
    (drew-refused drew c.in_default.is))

pub overflow_add-next : goal.overflow_add-next
overflow_add-next c =
    let l = c.loop-at in
    let i = l.invariant.0 in
    let k = i.kept.map in
    let drew = rw (lent l.out l.next) at (c.draw_by_lines-drawn.ensures i.hints.map k.scale k.lines) in
    let q = drew-wrote drew c.in-Ok.count c.in-Ok.is in
    let room : length c.args.out.now * 4 < 9223372036854775808 = search rules in
    record {
      fits = omega (
        arith,
        q.count,
        leb-true (length (stroke_by i.hints.map c.args.gauge.scale l.pen c.in-Draw.path).words)
            (length (drop l.next l.out)) q.fit,
        length-drop l.next l.out,
        i.goes.stands.along.within,
        room,
        i.goes.stands.along.same,
      );
    }

pub loop-at-smaller : goal.loop-at-smaller
loop-at-smaller c = omega (arith, moved _ _ _ c.read_by-read.ensures, c.loop-at-test.true)

pub loop-at-preserved : goal.loop-at-preserved
loop-at-preserved c =
    let l = c.loop-at in
    let i = l.invariant.0 in
    let k = i.kept.map in
    let e = c.read_by-read.ensures in
    let drew = rw (lent l.out l.next) at (c.draw_by_lines-drawn.ensures i.hints.map k.scale k.lines) in (
      rw (moved _ _ _ e, back l.next l.out)
          (draws _ _ _ _ _ _ _ _ _ _ _ _ _ _ _ _ _ i c.loop-at-test.true _ _ _ (command-is _ _ _ e c.in-Draw.is)
          (sym c.wants_map.ensures ∙ c.if-wants_map.false) (drew-wrote drew c.in-Ok.count c.in-Ok.is)),
      l.invariant.1,
    )

pub returns : goal.returns
returns c = turn-done c.loop-at.invariant.0.goes (omega arith)
