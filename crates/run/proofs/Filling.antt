-- Laws of room: one command's words more at the next free words, and where a run ends. Assumes
-- nothing.
use mathlib.Core.Path.{◌≡◌, refl, sym, ap, ◌∙◌}
use mathlib.Core.Bool.{Bool, true, false}
use mathlib.Core.List.{List, [], ◌∷◌, ◌++◌, append_assoc}
use Prim.Native.Nat.{ℕ, ◌+◌, ◌-◌, ◌≤◌}
use native.Mathlib.Nat.{zero-add}
use native.Mathlib.Omega.{arith}
use lib.Dec.{leb}
use lib.IntN.{ℤ}
use lib.ListN.{length, take, drop, length-append, length-drop, take-append-drop}
use lib.Seq.{length-take-le, take_at, drop_at}
use borrow.Author.Tests.{leb-true}
use Rattle.std.specs.Prelude.{Ok, Err}
use Rattle.words.specs.declared.answer.Refusal.TheVariants.{NoRoom}
use Rattle.pen.specs.Records.{written, fits}
use Rattle.pen.proofs.Words.{written_both}
use Rattle.run.specs.Room.{Step, Fitted, fit_by, fitted}
use Rattle.words.specs.Answers.{Answer}

-- how a run stands: what the commands from here on make of the words from next on is what all
-- commands make of all words
pub record Along (all : List Step) (out₀ : List ℤ) (rest : List Step) (next : ℕ) (out : List ℤ) : Type 0 where
  pub within : next ≤ length out
  pub same : length out ≡ length out₀
  pub said : (fitted (length out₀) all).said ≡ (fitted (length out - next) rest).said
  pub count : length (fitted (length out₀) all).words ≡ next + length (fitted (length out - next) rest).words
  pub left : written (fitted (length out₀) all).words out₀ ≡
      take next out ++ written (fitted (length out - next) rest).words (drop next out)

-- before the first command
pub begun : (all : List Step) (out : List ℤ) → Along all out all 0 out
begun all out =
    let z : length out - 0 ≡ length out = omega arith in
    record {
      within = omega arith;
      same = refl;
      said = ap (λ (k : ℕ). (fitted k all).said) (sym z);
      count =
          ap (λ (k : ℕ). length (fitted k all).words) (sym z) ∙
          sym (zero-add (length (fitted (length out - 0) all).words));
      left = ap (λ (k : ℕ). written (fitted k all).words out) (sym z);
    }

-- the same of equal commands
pub following : {all : List Step} {out₀ : List ℤ} {rest rest' : List Step} {next : ℕ} {out : List ℤ} → rest ≡ rest' →
    Along all out₀ rest next out → Along all out₀ rest' next out
following e a = rw e at a

-- ws at the next free words
abbrev pub placed : ℕ → List ℤ → List ℤ → List ℤ
placed next ws out = take next out ++ written ws (drop next out)

module _ (next : ℕ) (ws out : List ℤ) (h : next ≤ length out) (f : length ws ≤ length (drop next out)) where
  front : List ℤ
  front = take next out ++ ws

  front_length : length front ≡ next + length ws
  unfolding front
  front_length = length-append (take next out) ws ∙ ap (λ (k : ℕ). k + length ws) (length-take-le next out h)

  split : placed next ws out ≡ front ++ drop (length ws) (drop next out)
  unfolding front written
  split = sym (append_assoc (take next out) ws (drop (length ws) (drop next out)))

  placed-length : length (placed next ws out) ≡ length out
  placed-length =
      ap length split ∙ length-append front (drop (length ws) (drop next out)) ∙
      omega (arith, front_length, length-drop next out, length-drop (length ws) (drop next out))

  placed-take : take (next + length ws) (placed next ws out) ≡ front
  placed-take =
      ap (take (next + length ws)) split ∙
      take_at front (drop (length ws) (drop next out)) (next + length ws) front_length

  placed-drop : drop (next + length ws) (placed next ws out) ≡ drop (length ws) (drop next out)
  placed-drop =
      ap (drop (next + length ws)) split ∙
      drop_at front (drop (length ws) (drop next out)) (next + length ws) front_length

  -- more words behind those that were placed
  placed-both : (vs : List ℤ) → placed next (ws ++ vs) out ≡ placed (next + length ws) vs (placed next ws out)
  unfolding front
  placed-both vs =
      ap (λ (l : List ℤ). take next out ++ l) (written_both ws vs (drop next out)) ∙
      sym (append_assoc (take next out) ws (written vs (drop (length ws) (drop next out)))) ∙
      sym (ap (λ (l : List ℤ). l ++ written vs (drop (next + length ws) (placed next ws out))) placed-take ∙
      ap (λ (l : List ℤ). front ++ written vs l) placed-drop)

-- a list with nothing placed in it
pub placed-none : (next : ℕ) (out : List ℤ) → placed next [] out ≡ out
unfolding written
placed-none next out = take-append-drop next out

module _ {all : List Step} {out₀ : List ℤ} {rest : List Step} {next : ℕ} {out : List ℤ} {t : Step}
    (a : Along all out₀ (t ∷ rest) next out) where
  by-room : (b : Bool) → fits t.words (drop next out) ≡ b →
      fitted (length out - next) (t ∷ rest) ≡ fit_by b t (fitted (length out - next - length t.words) rest)
  unfolding fitted
  by-room b f =
      ap (λ (x : Bool). fit_by x t (fitted (length out - next - length t.words) rest))
      (ap (leb (length t.words)) (sym (length-drop next out)) ∙ f)

  -- a command that fits writes its words
  pub wrote : fits t.words (drop next out) ≡ true →
      Along all out₀ rest (next + length t.words) (placed next t.words out)
  wrote f =
      let ws = t.words in
      let h = leb-true (length ws) (length (drop next out)) f in
      let l = placed-length next ws out a.within h in
      let room : length (placed next ws out) - (next + length ws) ≡ length out - next - length ws = omega (arith, l) in
      let e = by-room true f in
      let r = fitted (length out - next - length ws) rest in
      record {
        within = omega (arith, l, h, a.within, length-drop next out);
        same = l ∙ a.same;
        said = a.said ∙ ap (λ (x : Fitted). x.said) e ∙ ap (λ (k : ℕ). (fitted k rest).said) (sym room);
        count =
            a.count ∙ ap (λ (x : Fitted). next + length x.words) e ∙ omega (arith, length-append ws r.words) ∙
            ap (λ (k : ℕ). next + length ws + length (fitted k rest).words) (sym room);
        left =
            a.left ∙ ap (λ (x : Fitted). placed next x.words out) e ∙
            placed-both next ws out a.within h r.words ∙
            ap (λ (k : ℕ). placed (next + length ws) (fitted k rest).words (placed next ws out)) (sym room);
      }

-- where a run ends: the answer, how many words were written, and the output
pub record Stopped (all : List Step) (out₀ : List ℤ) (answer : Answer) (next : ℕ) (out : List ℤ) : Type 0 where
  pub said : answer ≡ (fitted (length out₀) all).said
  pub count : next ≡ length (fitted (length out₀) all).words
  pub left : out ≡ written (fitted (length out₀) all).words out₀

-- a run ends where no further words fit
stopped : {all : List Step} {out₀ : List ℤ} {rest : List Step} {next : ℕ} {out : List ℤ} (answer : Answer) →
    Along all out₀ rest next out → fitted (length out - next) rest ≡ record { said = answer; words = [] } →
    Stopped all out₀ answer next out
stopped {next = next} {out = out} answer a e =
    record {
      said = sym (a.said ∙ ap (λ (x : Fitted). x.said) e);
      count = sym (a.count ∙ ap (λ (x : Fitted). next + length x.words) e ∙ omega arith);
      left = sym (a.left ∙ ap (λ (x : Fitted). placed next x.words out) e ∙ placed-none next out);
    }

-- at a command that does not fit
pub refused : {all : List Step} {out₀ : List ℤ} {rest : List Step} {next : ℕ} {out : List ℤ} {t : Step} →
    Along all out₀ (t ∷ rest) next out → fits t.words (drop next out) ≡ false →
    Stopped all out₀ (Err (NoRoom t.place)) next out
refused {t = t} a f = stopped (Err (NoRoom t.place)) a (by-room a false f)

-- and after the last command
pub done : {all : List Step} {out₀ : List ℤ} {next : ℕ} {out : List ℤ} → Along all out₀ [] next out →
    Stopped all out₀ (Ok tt) next out
unfolding fitted
done a = stopped (Ok tt) a refl
