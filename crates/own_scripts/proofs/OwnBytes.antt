-- A glyph's own script is bytes, as its mask bytes are. Assumes nothing.
use mathlib.Core.List.{List, [], ◌∷◌, ◌++◌}
use Prim.Native.Nat.{ℕ, zero, suc, ◌+◌, ◌-◌, ◌*◌, ◌<◌}
use native.Mathlib.Omega.{arith}
use lib.IntN.{ℤ}
use lib.ListN.{length, drop, get_or, replicate, length-take, length-drop}
use lib.Seq.{get_or-take, get_or-drop}
use Rattle.fixed.specs.declared.Fixed.{Fixed}
use Rattle.fixed.specs.Integers.{bits_of}
use Rattle.zones.specs.declared.state.HintParams.{HintParams}
use Rattle.words.specs.Bytes.{bytes_of}
use Rattle.header.specs.Header.{padded}
use Rattle.writer.specs.ToWrite.{padded_bytes}
use Rattle.labels.specs.Glyphs.{Glyph, glyph, glyphs_of}
use Rattle.round_trips.specs.RoundTrips.{Bytes}
use Rattle.own_scripts.specs.OwnScripts.{own_words, own_script}

-- no byte
no_bytes : Bytes []
no_bytes i h = absurd (omega arith)

-- one more
byte_more : (b : ℕ) (bs : List ℕ) → b < 256 → Bytes bs → Bytes (b ∷ bs)
byte_more b bs l h zero m = l
byte_more b bs l h (suc i) m = h i (omega arith)

-- of two lists
both_bytes : (bs cs : List ℕ) → Bytes bs → Bytes cs → Bytes (bs ++ cs)
both_bytes [] cs h k = k
both_bytes (b ∷ bs) cs h k =
    byte_more b (bs ++ cs) (h 0 (omega arith)) (both_bytes bs cs (λ i l. h (suc i) (omega arith)) k)

-- those of words
word_bytes : (ws : List ℕ) → Bytes (bytes_of ws)
unfolding bytes_of
word_bytes [] i h = absurd (omega arith)
word_bytes (w ∷ ws) zero h = omega arith
word_bytes (w ∷ ws) (suc zero) h = omega arith
word_bytes (w ∷ ws) (suc (suc zero)) h = omega arith
word_bytes (w ∷ ws) (suc (suc (suc zero))) h = omega arith
word_bytes (w ∷ ws) (suc (suc (suc (suc i)))) h = word_bytes ws i (omega arith)

-- zeros
zero-bytes : (n : ℕ) → Bytes (replicate n 0)
zero-bytes zero = no_bytes
zero-bytes (suc n) = byte_more 0 (replicate n 0) (omega arith) (zero-bytes n)

-- the mask bytes of a glyph are some of the label's
pub glyph-bytes : (ls words : List ℤ) (masks : List ℕ) → Bytes masks → (k : ℕ) →
    Bytes (get_or (glyphs_of ls words masks) k (glyph [] [])).masks
unfolding glyphs_of
glyph-bytes [] words masks h k = no_bytes
glyph-bytes (n ∷ []) words masks h k = no_bytes
glyph-bytes (n ∷ b ∷ ls) words masks h zero = λ i l.
    let m = length-take (bits_of b) masks in
    rw (get_or-take (bits_of b) masks i 0 (omega arith)) (h i (omega arith))
glyph-bytes (n ∷ b ∷ ls) words masks h (suc k) =
    glyph-bytes ls (drop (bits_of n) words) (drop (bits_of b) masks)
    (λ i l. rw (get_or-drop (bits_of b) masks i 0) (h (bits_of b + i) (omega (arith, length-drop (bits_of b) masks)))) k

-- so its own script is
pub own-bytes : (scale : Fixed) (p : HintParams) (g : Glyph) → Bytes g.masks → Bytes (own_script scale p g)
unfolding own_script padded_bytes
own-bytes scale p g h =
    both_bytes (bytes_of (own_words scale p g)) _ (word_bytes (own_words scale p g))
    (both_bytes g.masks _ h (zero-bytes (4 * padded (length g.masks) - length g.masks)))
