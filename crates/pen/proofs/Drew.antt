-- Laws of the outcome of a stroke: what makes it, what its answer says, and that it is the only
-- one. Assumes nothing.
use mathlib.Core.Path.{◌≡◌, refl, sym, ap, ◌∙◌}
use mathlib.Core.Bool.{Bool, true, false, cond}
use mathlib.Core.List.{List}
use Prim.Native.Nat.{ℕ, ◌≤◌, ◌<◌}
use native.Mathlib.Omega.{arith}
use lib.IntN.{ℤ}
use lib.ListN.{length}
use Rattle.std.proofs.Common.{Result, Ok, Err}
use borrow.Author.Tests.{le-leb, lt-leb}
use Rattle.pen.specs.declared.strokes.Pen.{Pen}
use Rattle.pen.specs.declared.drawn.Drawn.{Drawn}
use Rattle.pen.specs.declared.drawn.NoRoom.{NoRoom}
use Rattle.pen.specs.Records.{written, fits}
use Rattle.pen.specs.Strokes.{Stroke}
use Rattle.pen.specs.Drawn.{call_number, call_words, Drew}

-- ---- what makes it
module _ {t : Stroke} {from : Pen} {out : List ℤ} where
  -- words that fit are written
  pub drew : {n : ℕ} {left : List ℤ} → n ≡ length t.words → n ≤ length out → left ≡ written t.words out →
      Drew t from out (record { pen = t.pen; answer = Ok n }) left
  drew e h m =
      let f = le-leb (length t.words) (length out) (omega arith) in
      record { number = rw f; words = rw f e; place = refl; pen = rw f; memory = rw f m }

  -- for others there is no room
  pub no_room : {said : Drawn} {e : NoRoom} → said ≡ record { pen = from; answer = Err e } →
      length out < length t.words →
      Drew t from out said out
  no_room e h =
      let f = lt-leb (length t.words) (length out) h in
      rw e (record { number = rw f; words = rw f; place = refl; pen = rw f; memory = rw f })

-- ---- what its answer says of its stroke
-- of a call that wrote so many words
pub record DrewWords (t : Stroke) (out : List ℤ) (said : Drawn) (k : ℕ) (exit : List ℤ) : Type 0 where
  pub fit : fits t.words out ≡ true
  pub pen : said.pen ≡ t.pen
  pub count : k ≡ length t.words
  pub left : exit ≡ written t.words out

-- of a call that was refused
pub record DrewNothing (t : Stroke) (from : Pen) (out : List ℤ) (said : Drawn) (exit : List ℤ) : Type 0 where
  pub fit : fits t.words out ≡ false
  pub pen : said.pen ≡ from
  pub left : exit ≡ out

module _ {t : Stroke} {from : Pen} {out : List ℤ} {said : Drawn} {exit : List ℤ} (h : Drew t from out said exit) where
  pub drew-wrote : (k : ℕ) → said.answer ≡ Ok k → DrewWords t out said k exit
  drew-wrote k a =
      go (fits t.words out) refl (ap call_number (sym a) ∙ h.number) (ap call_words (sym a) ∙ h.words) h.pen
      h.memory
    where
      go : (b : Bool) → fits t.words out ≡ b → ◌≡◌ {A = ℕ} 0 (cond b 0 6) → k ≡ cond b (length t.words) 0 →
          said.pen ≡ cond b t.pen from → exit ≡ cond b (written t.words out) out → DrewWords t out said k exit
      go true f n w p l = record { fit = f; pen = p; count = w; left = l }
      go false f n w p l = absurd (omega arith)

  pub drew-refused : {e : NoRoom} → said.answer ≡ Err e → DrewNothing t from out said exit
  drew-refused a = go (fits t.words out) refl (ap call_number (sym a) ∙ h.number) h.pen h.memory
    where
      go : (b : Bool) → fits t.words out ≡ b → ◌≡◌ {A = ℕ} 6 (cond b 0 6) → said.pen ≡ cond b t.pen from →
          exit ≡ cond b (written t.words out) out → DrewNothing t from out said exit
      go true f n p l = absurd (omega arith)
      go false f n p l = record { fit = f; pen = p; left = l }

-- ---- it is the only one
-- the number and the words of an answer tell which it is
pub same_answer : (a b : Result ℕ NoRoom) → call_number a ≡ call_number b → call_words a ≡ call_words b → a ≡ b
same_answer (Ok n) (Ok k) e w = ap Ok w
same_answer (Ok n) (Err _) e w = absurd (omega arith)
same_answer (Err _) (Ok k) e w = absurd (omega arith)
same_answer (Err _) (Err _) e w = refl

same-drawn : {d e : Drawn} → d.pen ≡ e.pen → d.answer ≡ e.answer → d ≡ e
same-drawn {d} {e} p a =
    ap (λ (x : Pen). record { pen = x; answer = d.answer }) p ∙
    ap (λ (x : Result ℕ NoRoom). record { pen = e.pen; answer = x }) a

-- two outcomes of a stroke have the same result and the same words
pub drew-one : {t : Stroke} {from : Pen} {out : List ℤ} {r r' : Drawn} {left left' : List ℤ} → Drew t from out r left →
    Drew t from out r' left' → (r ≡ r') × (left ≡ left')
drew-one {r = r} {r' = r'} p q =
    let a = same_answer r.answer r'.answer (p.number ∙ sym q.number) (p.words ∙ sym q.words) in
    (same-drawn (p.pen ∙ sym q.pen) a, p.memory ∙ sym q.memory)
