-- `save_all` meets its contract. A number past the stems changes nothing in the definition either. Assumes
-- nothing.
use Rattle.std.proofs.Common.{◌≡◌, false, List, ℕ, ℤ, ◌+◌, ◌<◌, ◌≤◌, length, drop, sym, ap, ◌∙◌, arith, rules}
use Rattle.stems.specs.declared.edge.Hint.{Hint}
use Rattle.stems.specs.declared.edge.StemHint.{StemHint}
use Rattle.stems.specs.declared.edge.Stems.{Stems}
use Rattle.stems.specs.Edge.{max_hints}
use Rattle.stems.specs.Lists.{hint_in, held, stem_in, stems_in, set_stem}
use Rattle.stems.proofs.Places.{stem-in, stems-long, stem-put, set_long}
use Rattle.hintmap.proofs.Lent.{held-length, held_at}
use Rattle.build.specs.Build.{saved_stem, saved_in, saved_all, no_stem}
use Rattle.build.proofs.Saved.{save-more, save-ends, save-synthetic, save-stem, save-past}
use Rattle.build.proofs.save.save_all.Goals as goal
use Rattle.build.proofs.save.save_all.Goals.{then-k-lt-MAX_HINTS, else-k-lt-MAX_HINTS}

-- a stem saved in its place is saved in the list
saved-in : (l : List ℤ) (n : ℕ) (e : Hint) (st : StemHint) → length l ≡ 480 → e.index < 96 → e.synthetic ≡ false →
    st ≡ saved_stem e (stem_in l e.index) → saved_in e (stems_in l n) ≡ stems_in (set_stem l e.index st) n
unfolding stems_in
saved-in l n e st long p r q =
    sym (ap (λ (xs : List StemHint). record { list = xs; count = n }) (stem-put l long e.index p st n) ∙
    save-stem e (stems_in l n) st r (q ∙ ap (saved_stem e) (sym (stem-in l n e.index no_stem p))))

-- whatever the stems become by an edge, the edges after it are left
again : (lines : List ℤ) (tags : List ℕ) (len i : ℕ) (x : Hint) (all before after : Stems) → len ≤ max_hints →
    i < len → x ≡ hint_in lines tags i → all ≡ saved_all (drop i (held lines tags len)) before →
    saved_in x before ≡ after → all ≡ saved_all (drop (i + 1) (held lines tags len)) after
again lines tags len i x all before after most less is kept e =
    let es = held lines tags len in
    let l = held-length lines tags len most in
    kept ∙ save-more es before i (omega (arith, l)) ∙
    ap (λ (y : Hint). saved_all (drop (i + 1) es) (saved_in y before)) (held_at lines tags len most i less ∙ sym is) ∙
    ap (saved_all (drop (i + 1) es)) e

pub loop-i-preserved-then-is_synthetic : goal.loop-i-preserved-then-is_synthetic
loop-i-preserved-then-is_synthetic c =
    let a = c.args in
    let x = c.edge_at-edge.result in (
      c.loop-i.invariant.0,
      λ n. again a.lines.now a.tags.now a.len c.loop-i.i x _ _ _ c.requires.1 (omega arith) c.edge_at-edge.ensures
          (c.loop-i.invariant.1 n) (save-synthetic x _ (sym c.is_synthetic.ensures ∙ c.if-is_synthetic.true)),
    )

pub loop-i-preserved : goal.loop-i-preserved
loop-i-preserved c =
    let a = c.args in
    let l = c.loop-i.invariant in
    let real = sym c.is_synthetic.ensures ∙ c.if-is_synthetic.false in
    let x = c.edge_at-edge.result in
    elim c.if-k-lt-MAX_HINTS.branch [
      | then-k-lt-MAX_HINTS w ↦
          let k : x.index < 96 = search (rules, w.if-k-lt-MAX_HINTS.true) in
          let q = w.stems-is ∙ w.put_stem.ensures in
          let f = w.saved.ensures ∙ ap (saved_stem x) w.stem_at.ensures in (
            rw q (set_long _ l.0 x.index k _),
            λ n. again a.lines.now a.tags.now a.len c.loop-i.i x _ _ _ c.requires.1 (omega arith)
                c.edge_at-edge.ensures (l.1 n)
                (saved-in _ n x _ l.0 k real f ∙ sym (ap (λ y. stems_in y n) q)),
          )
      | else-k-lt-MAX_HINTS w ↦ (
        rw w.stems-is l.0,
        λ n. again a.lines.now a.tags.now a.len c.loop-i.i x _ _ _ c.requires.1 (omega arith) c.edge_at-edge.ensures
            (l.1 n)
            (save-past x _ (omega (arith, w.if-k-lt-MAX_HINTS.false, stems-long c.loop-i.stems n)) ∙
            sym (ap (λ y. stems_in y n) w.stems-is)),
      )
    ]

pub returns : goal.returns
returns c =
    let a = c.args in
    let l = held-length a.lines.now a.tags.now a.len c.requires.1 in
    record {
      long = c.loop-i.invariant.0;
      stems = λ n. sym (c.loop-i.invariant.1 n ∙ save-ends _ _ c.loop-i.i (omega (arith, l)));
    }
