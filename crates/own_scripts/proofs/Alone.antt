-- Request 5's law: a glyph's own script is accepted, and its records are the glyph's, which stand in
-- the label's result; and the first fault of a glyph is that of its own script. Assumes nothing.
use mathlib.Core.Path.{◌≡◌, sym, ap, ◌∙◌}
use mathlib.Core.Bool.{Bool, false}
use mathlib.Core.List.{List, [], map}
use Prim.Native.Nat.{ℕ, ◌+◌, ◌-◌, ◌*◌, ◌≤◌, ◌<◌}
use native.Mathlib.Omega.{arith}
use lib.Dec.{ltb}
use lib.IntN.{ℤ, pos}
use lib.ListN.{length, take, drop, get_or, length-map, get_or-map}
use borrow.Author.Tests.{le-ltb}
use Rattle.std.specs.Prelude.{Ok}
use Rattle.fixed.specs.declared.Fixed.{Fixed}
use Rattle.fixed.specs.Integers.{low_bits, bits_of}
use Rattle.zones.specs.declared.state.HintParams.{HintParams}
use Rattle.zones.specs.declared.state.HintState.{HintState}
use Rattle.zones.specs.State.{state_of}
use Rattle.pen.specs.Records.{written}
use Rattle.hints.specs.Calls.{new_drawing}
use Rattle.words.specs.Words.{raw_at, given_word, number_at}
use Rattle.words.specs.Rows.{first_or}
use Rattle.words.specs.Answers.{Answer, first_of, refuses}
use Rattle.commands.specs.Commands.{CommandAt, commands_of}
use Rattle.commands.specs.Faults.{command_rows}
use Rattle.run.specs.Room.{Fitted, words_along}
use Rattle.run.specs.Run.{Asked, calls_of, steps_of}
use Rattle.run.proofs.Rooms.{fits_whole}
use Rattle.script.specs.Script.{commands_in, calls_in, check_rows, zones_of, steps_in, result_words, result_by}
use Rattle.script.specs.Script.{ended_by}
use Rattle.script.specs.Script.{script_of}
use Rattle.writer.specs.ToWrite.{padded_bytes}
use Rattle.labels.specs.Answers.{label_refuses}
use Rattle.labels.specs.Glyphs.{Glyph, glyph, fault_of, records_of}
use Rattle.labels.specs.Glyphs as glyphs
use Rattle.labels.specs.Labels.{Label, glyphs_in, records_in, joined, header_of, label_words, open_rows, output_by}
use Rattle.labels.specs.Labels.{labels_of}
use Rattle.round_trips.specs.RoundTrips.{Held, HeldParams, kept_params}
use Rattle.round_trips.proofs.WordBytes.{bits_small}
use Rattle.round_trips.proofs.Commands.{holds_at}
use Rattle.round_trips.proofs.Parameters.{sevens}
use Rattle.round_trips.proofs.LaidOut.{Contents, contents, param_count, word_count, zeros_behind, words_with}
use Rattle.round_trips.proofs.LaidOut.{script_with}
use Rattle.round_trips.proofs.LaidOut.{Holdable, laid_out, commands-read, masks-there}
use Rattle.round_trips.proofs.Passing.{scale-said, params-said, commands-said, by-commands}
use Rattle.own_scripts.specs.OwnScripts.{own_words, own_script, most_bytes, HeldLabel, glyph_at, records_at}
use Rattle.own_scripts.specs.OwnScripts.{Alone, behind, FaultAlone}
use Rattle.own_scripts.proofs.Elsewhere.{command_behind, asked_behind, commands-alike, faults-behind, calls-alike}
use Rattle.own_scripts.proofs.Elsewhere.{words-behind}
use Rattle.own_scripts.proofs.SameZones.{same-state, state-scale}
use Rattle.own_scripts.proofs.NotRefused.{Opened, opened, opens, faultless}
use Rattle.own_scripts.proofs.OwnBytes.{glyph-bytes, own-bytes}
use Rattle.own_scripts.proofs.InResult.{offset-there, words-there, records-there, past-there}

-- ---- a glyph's own script
abbrev own : Fixed → HintParams → Glyph → Contents
own scale p g = contents scale p (map bits_of g.words) g.masks

-- is that of what it holds
own_is : (scale : Fixed) (p : HintParams) (g : Glyph) → own_script scale p g ≡ script_with (own scale p g)
unfolding own_script own_words script_with words_with
own_is scale p g = rw (length-map g.words bits_of)

module _ (scale : Fixed) (p : HintParams) (g : Glyph) (held : Held scale) (params : HeldParams p) (o : Opened scale p)
    (short : length (own_script scale p g) ≤ most_bytes) where
  abbrev c : Contents
  c = own scale p g

  abbrev s : List ℕ
  s = script_with c

  -- the words before its commands
  abbrev at : ℕ
  at = 8 + param_count c

  holds : Holdable c
  holds =
      record {
        scaled = o.scaled;
        params = o.params;
        small = bits_small g.words;
        short = rw (own_is scale p g) at short;
      }

  -- its command words are the glyph's
  words-alike : (j : ℕ) → j < length g.words → raw_at (drop (4 * at) s) j ≡ given_word g.words j
  unfolding low_bits
  words-alike j h =
      let z : 0 + j ≡ j = omega arith in
      let n = length-map g.words bits_of in
      (rw z at (holds_at (raw_at (drop (4 * at) s)) 0 (map bits_of g.words) (commands-read c holds) j (omega arith))) ∙
      get_or-map bits_of g.words j (pos 0)

  -- so its commands are, behind these words
  commands-own : commands_in s ≡ map (command_behind at) (glyphs.commands_in g)
  commands-own =
      let w = raw_at (drop (4 * at) s) in
      commands-said c held params holds ∙
      ap (commands_of at w) (length-map g.words bits_of) ∙
      commands-alike w (given_word g.words) (length g.words) words-alike at

  -- its first fault is the glyph's
  fault-own : first_of (check_rows s) ≡ behind at (fault_of g)
  unfolding fault_of
  fault-own =
      by-commands c held params holds ∙
      ap (λ (cs : List CommandAt). first_of (command_rows (length g.masks) cs)) commands-own ∙
      faults-behind at (length g.masks) (glyphs.commands_in g)

  -- its zones are those of the parameters
  zones-own : zones_of s ≡ state_of p scale
  unfolding zones_of
  zones-own =
      ap (λ (q : HintParams). state_of q (number_at (raw_at s) 1)) (params-said c held params holds) ∙
      ap (state_of (kept_params p)) (scale-said c held params holds) ∙
      same-state p (sevens p params) o.params scale

  module _ (fine : fault_of g ≡ Ok tt) where
    abbrev st : HintState
    st = state_of p scale

    -- its calls are the glyph's
    calls-own : calls_in s ≡ map (asked_behind at) (glyphs.calls_in g)
    unfolding fault_of padded_bytes
    calls-own =
        let from = 4 * word_count c in
        ap (λ (n : ℕ). calls_of s (4 * n) (commands_in s)) (laid_out c holds).masks_at ∙
        ap (calls_of s from) commands-own ∙
        calls-alike s g.masks (zeros_behind (length g.masks)) from (masks-there c) at (glyphs.commands_in g) fine

    -- and so are its records
    records-own : words_along (steps_in s) ≡ records_of st g
    unfolding steps_in records_of
    records-own =
        let new = new_drawing st.scale in
        let scaled = scale-said c held params holds ∙ sym (state-scale p scale) in
        ap (λ (z : HintState). words_along (steps_of z (new_drawing (number_at (raw_at s) 1)) (calls_in s))) zones-own ∙
        ap (λ (x : Fixed). words_along (steps_of st (new_drawing x) (calls_in s))) scaled ∙
        ap (λ (cs : List Asked). words_along (steps_of st new cs)) calls-own ∙
        words-behind at st new (glyphs.calls_in g)

    -- its run leaves them, where there is room
    run-own : (lent : List ℤ) → 4 + length (records_of st g) ≤ length lent →
        script_of s lent ≡ record { answer = Ok tt; left = written (result_words (records_of st g)) lent }
    unfolding script_of
    run-own lent room =
        let accepted = fault-own ∙ ap (behind at) fine in
        let fits : length (words_along (steps_in s)) ≤ length lent - 4 = rw records-own (omega arith) in
        ap (λ (a : Answer). result_by (refuses a) (ltb (length lent) 4) s lent) accepted ∙
        ap (λ (b : Bool). result_by false b s lent) (le-ltb (length lent) 4 (omega arith)) ∙
        ap (λ (f : Fitted). ended_by f lent) (fits_whole (length lent - 4) (steps_in s) fits) ∙
        ap (λ (ws : List ℤ). record { answer = Ok tt; left = written (result_words ws) lent }) records-own

-- ---- the laws
-- a glyph's first fault is that of its own script
pub fault-alone : (scale : Fixed) (p : HintParams) (g : Glyph) → Held scale → HeldParams p →
    first_or (Ok 0) (open_rows scale p) ≡ Ok 0 → length (own_script scale p g) ≤ most_bytes → FaultAlone scale
    p g
fault-alone scale p g held params o short =
    rw (own_is scale p g) (fault-own scale p g held params (opened scale p o) short)

-- a glyph of a label that is not refused
module _ (l : Label) (out : List ℤ) (k : ℕ) (held : HeldLabel l) (e : label_refuses (labels_of l out).answer ≡ false)
    (h : k < length (glyphs_in l)) where
  abbrev wss : List (List ℤ)
  wss = records_in l

  abbrev zones : HintState
  zones = state_of l.params l.scale

  -- what stands past the records
  abbrev none : List ℤ
  none = records_of zones (glyph [] [])

  -- as many records as glyphs
  as_many : length wss ≡ length (glyphs_in l)
  unfolding records_in
  as_many = length-map (glyphs_in l) (records_of zones)

  -- each the glyph's
  its-records : get_or wss k none ≡ records_at l k
  unfolding records_in
  its-records = get_or-map (records_of zones) (glyphs_in l) k (glyph [] [])

  left_is : (labels_of l out).left ≡ written (label_words wss) out
  unfolding labels_of
  left_is = ap (λ (b : Bool). output_by b (label_words wss) out) e

  there : k < length wss
  there = omega (arith, as_many)

  -- its records are those of its own script, and stand in the result
  pub alone : Alone l out k
  alone =
      let g = glyph_at l k in
      let fine = faultless l out e (glyph [] []) k h in
      let o = opened l.scale l.params (opens l out e) in
      record {
        bytes =
            own-bytes l.scale l.params g
            (glyph-bytes l.lengths l.commands l.masks held.masks k);
        run = λ short lent room.
            rw (own_is l.scale l.params g)
            (run-own l.scale l.params g held.scale held.params o short fine lent room);
        offset =
            ap (λ (ws : List ℤ). get_or ws (2 + 2 * k) (pos 0)) left_is ∙ offset-there wss out none k there ∙
            ap (λ (n : ℕ). pos (header_of n + length (joined (take k wss)))) as_many;
        words =
            ap (λ (ws : List ℤ). get_or ws (3 + 2 * k) (pos 0)) left_is ∙ words-there wss out none k there ∙
            ap (λ (ws : List ℤ). pos (length ws)) its-records;
        records = rw (left_is, sym as_many, sym its-records) (records-there wss out none k there);
        rest = ap (drop (length (label_words wss))) left_is ∙ past-there (label_words wss) out;
      }
