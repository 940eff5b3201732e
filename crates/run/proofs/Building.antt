-- Maps that a run's lists keep after a build, and the stems after it. Assumes nothing.
use mathlib.Core.Path.{◌≡◌, sym, ap, subst, ◌∙◌}
use mathlib.Core.Bool.{Bool, true, false}
use mathlib.Core.List.{List, append-nil}
use Prim.Native.Nat.{ℕ}
use lib.IntN.{ℤ}
use lib.ListN.{length}
use Rattle.stems.specs.declared.mask.HintMask.{HintMask}
use Rattle.stems.specs.declared.edge.Stems.{Stems}
use Rattle.stems.specs.Mask.{of_bytes, mask_of}
use Rattle.stems.specs.Lists.{stems_in}
use Rattle.zones.specs.declared.state.HintState.{HintState}
use Rattle.hintmap.specs.Map.{valid_map, view}
use Rattle.hintmap.specs.Lent.{map_in}
use Rattle.hintmap.proofs.Lent.{view-map}
use Rattle.build.specs.declared.map.Built.{Built}
use Rattle.build.specs.Build.{initial_of, built_of}
use Rattle.build.specs.Made.{SameDeclared, MadeInitial, MadeMap}
use Rattle.build.proofs.Declared.{initial-alike, map-alike, stems-alike}
use Rattle.build.proofs.Sound.{initial-valid, built-valid, initial-scale, built-scale}
use Rattle.hints.specs.declared.hints.Hints.{Hints}
use Rattle.hints.specs.Hints.{initial_by, with_initial, built_from, countered, ready_by, ready_of}
use Rattle.run.specs.declared.kept.Sizes.{Sizes}
use Rattle.run.specs.Kept.{KeptMap, Kept}

module _ (st : HintState) where
  -- an initial map that was made
  initial-kept : (ss : Stems) (n : ℕ) (ls : List ℤ) (ts : List ℕ) → MadeInitial st ss n ls ts →
      KeptMap st.scale (initial_of st ss) ls n true
  initial-kept ss n ls ts m =
      record {
        lines = record {
          tags = ts;
          edges = ap view (sym m.map) ∙ view-map ls ts n m.lent.fits st.scale;
        };
        fits = m.lent.fits;
        order = m.lent.order;
        scale = initial-scale st ss;
        valid = initial-valid st ss;
      }

  module _ (h : Hints) (z : Sizes) (bs : List ℕ) (ns is ms : List ℤ) (k : Kept st h z bs ns is ms) where
    -- hints with an initial map have it already
    pub stays-based : z.based ≡ true → Kept st (with_initial st h) z bs ns is ms
    unfolding with_initial
    stays-based e =
        subst (λ (x : Hints). Kept st x z bs ns is ms)
        (sym (ap (λ (b : Bool). initial_by b st h) (k.initial.valid ∙ e))) k

    -- others get the one that is made
    pub gets-based : (n : ℕ) (ls : List ℤ) (ts : List ℕ) → z.based ≡ false →
        MadeInitial st (stems_in ns z.stems) n ls ts →
        Kept st (with_initial st h)
        (record { stems = z.stems; initial = n; based = true; map = z.map; valid = z.valid }) bs ns ls ms
    unfolding with_initial
    gets-based n ls ts e m =
        rw (k.initial.valid ∙ e)
        (record {
          stems = k.stems;
          mask = k.mask;
          initial =
              rw (initial-alike h.stems (stems_in ns z.stems) k.stems st)
              (initial-kept (stems_in ns z.stems) n ls ts m);
          map = k.map;
        })

    -- a map that was built from these hints, and their stems after it
    module _ (mask : HintMask) (n : ℕ) (ls : List ℤ) (ts : List ℕ) (ns' : List ℤ)
        (m : MadeMap st mask ns z.stems is z.initial st.scale n ls ts ns') where
      abbrev ss : Stems
      ss = stems_in ns z.stems

      made : ◌≡◌ {A = Built} (record { map = valid_map (map_in ls ts n st.scale); stems = stems_in ns' z.stems })
          (built_of st mask h.initial ss)
      made = m.built h.initial k.initial.scale k.initial.lines

      built-stems : SameDeclared (built_from st mask h).stems (stems_in ns' z.stems)
      built-stems =
          rw (ap (λ (b : Built). b.stems) made) (stems-alike h.stems ss k.stems st mask h.initial)

      built-kept : KeptMap st.scale (built_from st mask h).map ls n true
      built-kept =
          record {
            lines = record {
              tags = ts;
              edges =
                  ap view (map-alike h.stems ss k.stems st mask h.initial) ∙
                  sym (ap (λ (b : Built). view b.map) made) ∙ view-map ls ts n m.lent.fits st.scale;
            };
            fits = m.lent.fits;
            order = m.lent.order;
            scale = built-scale st mask h.initial h.stems;
            valid = built-valid st mask h.initial h.stems;
          }

-- a counter mask leaves its stems alone
pub counter-kept : (st : HintState) (h : Hints) (z : Sizes) (bs : List ℕ) (ns is ms : List ℤ)
    (mask : HintMask) (n : ℕ) (ls : List ℤ) (ts : List ℕ) (ns' : List ℤ) → Kept st (with_initial st h) z bs ns is ms →
    MadeMap st mask ns z.stems is z.initial st.scale n ls ts ns' →
    Kept st (countered st mask h) z bs ns' is ms
unfolding countered
counter-kept st h z bs ns is ms mask n ls ts ns' k m =
    record {
      stems = built-stems st (with_initial st h) z bs ns is ms k mask n ls ts ns' m;
      mask = k.mask;
      initial = k.initial;
      map = k.map;
    }

-- hints that were not ready are, by the map that is built
pub ready-kept : (st : HintState) (h : Hints) (z : Sizes) (bs : List ℕ) (ns is ms : List ℤ) (n : ℕ) (ls : List ℤ)
    (ts : List ℕ) (ns' : List ℤ) → h.map.is_valid ≡ false → Kept st (with_initial st h) z bs ns is ms →
    MadeMap st (of_bytes bs) ns z.stems is z.initial st.scale n ls ts ns' →
    Kept st (ready_of st h)
    (record { stems = z.stems; initial = z.initial; based = z.based; map = n; valid = true }) bs ns' is ls
unfolding ready_of
ready-kept st h z bs ns is ms n ls ts ns' e k m =
    let g = with_initial st h in
    let z' : Sizes = record { stems = z.stems; initial = z.initial; based = z.based; map = n; valid = true } in
    let m' = subst (λ (x : HintMask). MadeMap st x ns z.stems is z.initial st.scale n ls ts ns')
    (sym k.mask) m in
    subst (λ (x : Hints). Kept st x z' bs ns' is ls) (sym (ap (λ (b : Bool). ready_by b st h) e))
    (record {
      stems = built-stems st g z bs ns is ms k g.mask n ls ts ns' m';
      mask = k.mask;
      initial = k.initial;
      map = built-kept st g z bs ns is ms k g.mask n ls ts ns' m';
    })

-- twelve bytes are a mask's own
pub twelve_bytes : (bs : List ℕ) → length bs ≡ 12 → mask_of bs ≡ of_bytes bs
unfolding mask_of
twelve_bytes bs e = rw e (ap of_bytes (append-nil bs))
