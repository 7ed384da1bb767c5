-- The exits of the dispatch, a kind each.
-- Assumes nothing.
use Rattle.std.specs.Prelude.{ℕ, ◌≡◌, Bool, true, false, length, drop, Option, Some, None}
use Rattle.std.specs.Bool.{then_some}
use Rattle.std.proofs.Math.Path.{refl, sym, ap}
use Rattle.std.proofs.Common.{◌∙◌, arith}
use mathlib.Core.List.{List, [], ◌∷◌}
use Rattle.text.specs.Bytes.{bytes}
use Rattle.text.specs.Part.{every, starts_with}
use Rattle.path.specs.declared.name.Name.TheVariants.{Connection, Port, Channel}
use Rattle.path.specs.declared.PathView.{PathView}
use Rattle.path.specs.Text.{nowhere}
use Rattle.path.specs.Kinds.{word, name, count, carried, kinds, kind1, kind2, kind3, kind9, kind10, kind11, kind12, kind13, kind14, kind15, kind16, kind17}
use Rattle.path.specs.Read.{read_first}
use Rattle.path.specs.ReadLaws.{kind-has}
use Rattle.path.specs.View.{seen}
use Rattle.walk_scan.specs.Tail.{none, tail_of}
use Rattle.walk_scan.specs.TailLaws.{word_more, word-last, word-longer}
use Rattle.walk_families.specs.Flat.{walked, flat, counters, listed, client_kinds, ends_parts, packet_parts}
use Rattle.walk_families.specs.FlatLaws.{skip, none_left}
use Rattle.walk.specs.Opening.{NoneOf, openings}
use Rattle.walk.specs.OpenLaws.{single, only, only-listed, rest-listed, shut, after-ports}

module _ (t : List ℕ) (r : Option PathView) where
  pub is_11 : starts_with (bytes "channelEnds/ports/") t ≡ true → r ≡ walked 11 (tail_of ends_parts 18 (drop 18 t)) → r ≡ flat t (read_first listed t)
  unfolding kinds listed every
  is_11 h e = e ∙ ap (walked 11) (sym (after-ports t (bytes "channelEnds") refl (name Port) (word (bytes "channels") ∷ name Channel ∷ []) h)) ∙ single kind11 t 11 (kind-has 11 (omega arith) (omega arith)) (λ v. refl) ∙ ap (flat t) (sym (only-listed t (bytes "channelEnds/ports/") h))

  pub is_12 : starts_with (bytes "nextSequenceSend/ports/") t ≡ true → r ≡ walked 12 (tail_of ends_parts 23 (drop 23 t)) → r ≡ flat t (read_first listed t)
  unfolding kinds listed every
  is_12 h e = e ∙ ap (walked 12) (sym (after-ports t (bytes "nextSequenceSend") refl (name Port) (word (bytes "channels") ∷ name Channel ∷ []) h)) ∙ single kind12 t 12 (kind-has 12 (omega arith) (omega arith)) (λ v. refl) ∙ ap (flat t) (sym (only-listed t (bytes "nextSequenceSend/ports/") h))

  pub is_13 : starts_with (bytes "nextSequenceRecv/ports/") t ≡ true → r ≡ walked 13 (tail_of ends_parts 23 (drop 23 t)) → r ≡ flat t (read_first listed t)
  unfolding kinds listed every
  is_13 h e = e ∙ ap (walked 13) (sym (after-ports t (bytes "nextSequenceRecv") refl (name Port) (word (bytes "channels") ∷ name Channel ∷ []) h)) ∙ single kind13 t 13 (kind-has 13 (omega arith) (omega arith)) (λ v. refl) ∙ ap (flat t) (sym (only-listed t (bytes "nextSequenceRecv/ports/") h))

  pub is_14 : starts_with (bytes "nextSequenceAck/ports/") t ≡ true → r ≡ walked 14 (tail_of ends_parts 22 (drop 22 t)) → r ≡ flat t (read_first listed t)
  unfolding kinds listed every
  is_14 h e = e ∙ ap (walked 14) (sym (after-ports t (bytes "nextSequenceAck") refl (name Port) (word (bytes "channels") ∷ name Channel ∷ []) h)) ∙ single kind14 t 14 (kind-has 14 (omega arith) (omega arith)) (λ v. refl) ∙ ap (flat t) (sym (only-listed t (bytes "nextSequenceAck/ports/") h))

  pub is_15 : starts_with (bytes "commitments/ports/") t ≡ true → r ≡ walked 15 (tail_of packet_parts 18 (drop 18 t)) → r ≡ flat t (read_first listed t)
  unfolding kinds listed every
  is_15 h e = e ∙ ap (walked 15) (sym (after-ports t (bytes "commitments") refl (name Port) (word (bytes "channels") ∷ name Channel ∷ word (bytes "sequences") ∷ count ∷ []) h)) ∙ single kind15 t 15 (kind-has 15 (omega arith) (omega arith)) (λ v. refl) ∙ ap (flat t) (sym (only-listed t (bytes "commitments/ports/") h))

  pub is_16 : starts_with (bytes "acks/ports/") t ≡ true → r ≡ walked 16 (tail_of packet_parts 11 (drop 11 t)) → r ≡ flat t (read_first listed t)
  unfolding kinds listed every
  is_16 h e = e ∙ ap (walked 16) (sym (after-ports t (bytes "acks") refl (name Port) (word (bytes "channels") ∷ name Channel ∷ word (bytes "sequences") ∷ count ∷ []) h)) ∙ single kind16 t 16 (kind-has 16 (omega arith) (omega arith)) (λ v. refl) ∙ ap (flat t) (sym (only-listed t (bytes "acks/ports/") h))

  pub is_17 : starts_with (bytes "receipts/ports/") t ≡ true → r ≡ walked 17 (tail_of packet_parts 15 (drop 15 t)) → r ≡ flat t (read_first listed t)
  unfolding kinds listed every
  is_17 h e = e ∙ ap (walked 17) (sym (after-ports t (bytes "receipts") refl (name Port) (word (bytes "channels") ∷ name Channel ∷ word (bytes "sequences") ∷ count ∷ []) h)) ∙ single kind17 t 17 (kind-has 17 (omega arith) (omega arith)) (λ v. refl) ∙ ap (flat t) (sym (only-listed t (bytes "receipts/ports/") h))

  pub is_9 : starts_with (bytes "connections/") t ≡ true → r ≡ walked 9 (tail_of (name Connection ∷ []) 12 (drop 12 t)) → r ≡ flat t (read_first listed t)
  unfolding kinds listed every
  is_9 h e =
      let w : tail_of kind9.parts 0 t ≡ tail_of (name Connection ∷ []) 12 (drop 12 t) = word_more (bytes "connections") refl (name Connection) [] 0 t ∙ rw h in
      e ∙ ap (walked 9) (sym w) ∙ single kind9 t 9 (kind-has 9 (omega arith) (omega arith)) (λ v. refl) ∙ ap (flat t) (sym (only-listed t (bytes "connections/") h))

  pub not_9 : starts_with (bytes "connecti") t ≡ true → starts_with (bytes "connections/") t ≡ false → r ≡ None → r ≡ flat t (read_first listed t)
  unfolding listed every
  not_9 o h e = e ∙ sym (ap (flat t) (only-listed t (bytes "connecti") o ∙ shut t kind9 refl h []) ∙ none_left t)

  -- kinds 1 to 3
  is_1 : starts_with (bytes "nextClientSequence") t ≡ true → length t ≡ 18 → r ≡ Some (seen 1 true (carried nowhere nowhere 0 0)) → r ≡ flat t (read_first counters t)
  unfolding kinds every
  is_1 h l e = e ∙ ap (walked 1) (sym (word-last (bytes "nextClientSequence") refl 0 t h l)) ∙ single kind1 t 1 (kind-has 1 (omega arith) (omega arith)) (λ v. refl) ∙ ap (flat t) (sym (only (bytes "nextClientSequence") t h counters refl))

  is_2 : starts_with (bytes "nextConnectionSequence") t ≡ true → length t ≡ 22 → r ≡ Some (seen 2 true (carried nowhere nowhere 0 0)) → r ≡ flat t (read_first counters t)
  unfolding kinds every
  is_2 h l e = e ∙ ap (walked 2) (sym (word-last (bytes "nextConnectionSequence") refl 0 t h l)) ∙ single kind2 t 2 (kind-has 2 (omega arith) (omega arith)) (λ v. refl) ∙ ap (flat t) (sym (only (bytes "nextConnectionSequence") t h counters refl))

  is_3 : starts_with (bytes "nextChannelSequence") t ≡ true → length t ≡ 19 → r ≡ Some (seen 3 true (carried nowhere nowhere 0 0)) → r ≡ flat t (read_first counters t)
  unfolding kinds every
  is_3 h l e = e ∙ ap (walked 3) (sym (word-last (bytes "nextChannelSequence") refl 0 t h l)) ∙ single kind3 t 3 (kind-has 3 (omega arith) (omega arith)) (λ v. refl) ∙ ap (flat t) (sym (only (bytes "nextChannelSequence") t h counters refl))

  not_1 : length t ≡ 18 → starts_with (bytes "nextClientSequence") t ≡ false → r ≡ None → r ≡ flat t (read_first counters t)
  unfolding every
  not_1 l h e = e ∙ sym (ap (flat t) (shut t kind1 refl h (kind2 ∷ (kind3 ∷ [])) ∙ skip kind2 t (word-longer (bytes "nextConnectionSequence") refl 0 t (λ x. omega arith)) (kind3 ∷ []) ∙ skip kind3 t (word-longer (bytes "nextChannelSequence") refl 0 t (λ x. omega arith)) []) ∙ none_left t)

  not_2 : length t ≡ 22 → starts_with (bytes "nextConnectionSequence") t ≡ false → r ≡ None → r ≡ flat t (read_first counters t)
  unfolding every
  not_2 l h e = e ∙ sym (ap (flat t) (skip kind1 t (word-longer (bytes "nextClientSequence") refl 0 t (λ x. omega arith)) (kind2 ∷ (kind3 ∷ [])) ∙ shut t kind2 refl h (kind3 ∷ []) ∙ skip kind3 t (word-longer (bytes "nextChannelSequence") refl 0 t (λ x. omega arith)) []) ∙ none_left t)

  not_3 : length t ≡ 19 → starts_with (bytes "nextChannelSequence") t ≡ false → r ≡ None → r ≡ flat t (read_first counters t)
  unfolding every
  not_3 l h e = e ∙ sym (ap (flat t) (skip kind1 t (word-longer (bytes "nextClientSequence") refl 0 t (λ x. omega arith)) (kind2 ∷ (kind3 ∷ [])) ∙ skip kind2 t (word-longer (bytes "nextConnectionSequence") refl 0 t (λ x. omega arith)) (kind3 ∷ []) ∙ shut t kind3 refl h []) ∙ none_left t)

  pub counts_1 : length t ≡ 18 → (v : Bool) → v ≡ starts_with (bytes "nextClientSequence") t → (w : PathView) → w ≡ seen 1 true (carried nowhere nowhere 0 0) → r ≡ then_some v w → r ≡ flat t (read_first counters t)
  counts_1 l true h w i e = is_1 (sym h) l (e ∙ ap (λ (x : PathView). Some x) i)
  counts_1 l false h w i e = not_1 l (sym h) e

  pub counts_2 : length t ≡ 22 → (v : Bool) → v ≡ starts_with (bytes "nextConnectionSequence") t → (w : PathView) → w ≡ seen 2 true (carried nowhere nowhere 0 0) → r ≡ then_some v w → r ≡ flat t (read_first counters t)
  counts_2 l true h w i e = is_2 (sym h) l (e ∙ ap (λ (x : PathView). Some x) i)
  counts_2 l false h w i e = not_2 l (sym h) e

  pub counts_3 : length t ≡ 19 → (v : Bool) → v ≡ starts_with (bytes "nextChannelSequence") t → (w : PathView) → w ≡ seen 3 true (carried nowhere nowhere 0 0) → r ≡ then_some v w → r ≡ flat t (read_first counters t)
  counts_3 l true h w i e = is_3 (sym h) l (e ∙ ap (λ (x : PathView). Some x) i)
  counts_3 l false h w i e = not_3 l (sym h) e

  pub no-counter : (length t ≡ 18 → ⊥) → (length t ≡ 22 → ⊥) → (length t ≡ 19 → ⊥) → r ≡ None → r ≡ flat t (read_first counters t)
  unfolding every
  no-counter h i j e = e ∙ sym (ap (flat t) (skip kind1 t (word-longer (bytes "nextClientSequence") refl 0 t h) (kind2 ∷ (kind3 ∷ [])) ∙ skip kind2 t (word-longer (bytes "nextConnectionSequence") refl 0 t i) (kind3 ∷ []) ∙ skip kind3 t (word-longer (bytes "nextChannelSequence") refl 0 t j) []) ∙ none_left t)

  -- kinds 4 to 8, and 10
  pub is-client : starts_with (bytes "clients/") t ≡ true → r ≡ flat t (read_first client_kinds t) → r ≡ flat t (read_first listed t)
  unfolding listed
  is-client h e = e ∙ ap (flat t) (sym (only-listed t (bytes "clients/") h))

  pub is_10 : starts_with (bytes "ports/") t ≡ true → r ≡ walked 10 (tail_of (name Port ∷ []) 6 (drop 6 t)) → r ≡ walked 10 (tail_of kind10.parts 0 t)
  unfolding every
  is_10 h e =
      let w : tail_of kind10.parts 0 t ≡ tail_of (name Port ∷ []) 6 (drop 6 t) = word_more (bytes "ports") refl (name Port) [] 0 t ∙ rw h in
      e ∙ ap (walked 10) (sym w)

  pub not_10 : starts_with (bytes "ports/") t ≡ false → r ≡ None → r ≡ walked 10 (tail_of kind10.parts 0 t)
  unfolding every
  not_10 h e =
      let w : tail_of kind10.parts 0 t ≡ none = word_more (bytes "ports") refl (name Port) [] 0 t ∙ rw h in
      e ∙ ap (walked 10) (sym w)

  -- where no other kind's first bytes stand there
  abbrev pub others : List (List ℕ)
  others = bytes "clients/" ∷ bytes "connecti" ∷ openings

  pub is-other : NoneOf others t → r ≡ walked 10 (tail_of kind10.parts 0 t) → r ≡ flat t (read_first listed t)
  unfolding kinds listed starts_with
  is-other n e = e ∙ single kind10 t 10 (kind-has 10 (omega arith) (omega arith)) (λ v. refl) ∙ ap (flat t) (sym (rest-listed t others n))
