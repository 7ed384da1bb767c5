-- The exits of the walk of a client's path.
-- Assumes nothing.
use Rattle.std.specs.Prelude.{ℕ, ◌+◌, ◌-◌, ◌≤◌, ◌<◌, ◌≡◌, Bool, false, cond, ◌&&◌, eqb, length, drop, get_or, Option, Some, None}
use Rattle.std.specs.Bool.{then_some}
use Rattle.std.proofs.Math.Path.{refl, sym}
use Rattle.std.proofs.Common.{ap, ◌∙◌, add-zero, length-drop, drop_of_length-le, get_or-drop}
use mathlib.Core.List.{List, [], ◌∷◌}
use Rattle.std.proofs.Math.Bool.{true, and-true}
use native.Mathlib.Omega.{arith}
use Rattle.std.proofs.Math.Seq.{drop-drop}
use Rattle.text.specs.Bytes.{bytes}
use Rattle.text.specs.Part.{every, starts_with, same}
use Rattle.text.specs.PartLaws.{starts-byte}
use Rattle.identifiers.specs.Check as check
use Rattle.path.specs.declared.name.Name.TheVariants.{Client}
use Rattle.path.specs.declared.PathView.{PathView}
use Rattle.path.specs.Text.{nowhere}
use Rattle.path.specs.Kinds.{Part, word, name, pair, carried, kinds, kind4, kind5, kind6, kind7, kind8}
use Rattle.path.specs.Read.{read_first}
use Rattle.path.specs.Reads.{here, later}
use Rattle.path.specs.ReadLaws.{apart_all, kind-has}
use Rattle.walk_scan.specs.declared.number.Counted.{Counted}
use Rattle.walk_scan.specs.Number.{counted_of}
use Rattle.walk_scan.specs.Run.{nonzero, rule_run}
use Rattle.walk_scan.specs.NameLaws.{scans-client}
use Rattle.walk_scan.specs.Tail.{none, some, tail_of, after_of}
use Rattle.walk_scan.specs.TailLaws.{word_more, after-word, after_last, after-other, after-longer, after-end, after_more}
use Rattle.walk_families.specs.Flat.{flat, client_kinds}
use Rattle.walk_families.specs.FlatLaws.{skip, found, none_left}
use Rattle.walk_families.specs.Ends.{with_name}
use Rattle.walk_families.specs.PieceLaws.{rule-none, rule-some, pair-first, pair-no_dash, pair-second, pair-some}
use Rattle.walk_families.specs.Client.{time_parts, height_parts, state_parts, link_parts, ended, WordKind, state, links, neither, UpdateKind, over, time, height, other, Consensus, unread, five, six, seven}

-- ---- one word more
module _ (t : List ℕ) (e : ℕ) (l : e ≤ length t) where
  left_is : length (drop e t) ≡ length t - e
  left_is = length-drop e t

  pub word-long : (length t - e ≡ 12 → ⊥) → WordKind t e None
  unfolding every
  word-long h = neither (after-longer (bytes "clientState") refl e (drop e t) (λ x. h (omega (arith, x, left_is)))) (after-longer (bytes "connections") refl e (drop e t) (λ x. h (omega (arith, x, left_is))))

  module _ (n : length t - e ≡ 12) where
    pub word-state : starts_with (bytes "/clientState") (drop e t) ≡ true → WordKind t e (Some 4)
    unfolding every
    word-state h = state (after_last (bytes "clientState") refl e (drop e t) h (omega (arith, n, left_is)))

    pub word-links : starts_with (bytes "/clientState") (drop e t) ≡ false → (v : Bool) → v ≡ starts_with (bytes "/connections") (drop e t) → (k : Option ℕ) → k ≡ then_some v 8 → WordKind t e k
    unfolding every
    word-links h true i k e\' = rw e\' (links (after_last (bytes "connections") refl e (drop e t) (sym i) (omega (arith, n, left_is))))
    word-links h false i k e\' = rw e\' (neither (after-other (bytes "clientState") refl e (drop e t) h) (after-other (bytes "connections") refl e (drop e t) (sym i)))

  -- ---- what follows R-h
  long-time : (length t - e ≡ 14 → ⊥) → after_of time_parts e (drop e t) ≡ none
  unfolding every
  long-time h = after-longer (bytes "processedTime") refl e (drop e t) (λ x. h (omega (arith, x, left_is)))

  long-height : (length t - e ≡ 16 → ⊥) → after_of height_parts e (drop e t) ≡ none
  unfolding every
  long-height h = after-longer (bytes "processedHeight") refl e (drop e t) (λ x. h (omega (arith, x, left_is)))

  pub update-over : length t - e ≡ 0 → UpdateKind t e (Some 5)
  update-over h = over (after-end e (drop e t) (omega (arith, h, left_is)))

  pub update-time : length t - e ≡ 14 → (v : Bool) → v ≡ starts_with (bytes "/processedTime") (drop e t) → (k : Option ℕ) → k ≡ then_some v 6 → UpdateKind t e k
  unfolding every
  update-time n true h k e\' = rw e\' (time (after_last (bytes "processedTime") refl e (drop e t) (sym h) (omega (arith, n, left_is))))
  update-time n false h k e\' = rw e\' (other (after_more e (drop e t) (omega (arith, n, left_is))) (after-other (bytes "processedTime") refl e (drop e t) (sym h)) (long-height (λ x. omega arith)))

  pub update-height : length t - e ≡ 16 → (v : Bool) → v ≡ starts_with (bytes "/processedHeight") (drop e t) → (k : Option ℕ) → k ≡ then_some v 7 → UpdateKind t e k
  unfolding every
  update-height n true h k e\' = rw e\' (height (after_last (bytes "processedHeight") refl e (drop e t) (sym h) (omega (arith, n, left_is))))
  update-height n false h k e\' = rw e\' (other (after_more e (drop e t) (omega (arith, n, left_is))) (long-time (λ x. omega arith)) (after-other (bytes "processedHeight") refl e (drop e t) (sym h)))

  pub update_other : (length t - e ≡ 0 → ⊥) → (length t - e ≡ 14 → ⊥) → (length t - e ≡ 16 → ⊥) → UpdateKind t e None
  update_other h i j = other (after_more e (drop e t) (omega (arith, h, left_is))) (long-time i) (long-height j)

-- ---- R-h
module _ (t : List ℕ) (at n : ℕ) where
  unread-all : ((ps : List Part) → tail_of (pair ∷ ps) at (drop at t) ≡ none) → Consensus t at n None
  unread-all h = unread (h []) (h time_parts) (h height_parts)

  -- where the first number is none, no dash is looked for
  pub no-first : None ≡ counted_of at (drop at t) → Consensus t at n None
  no-first h = unread-all (pair-first t at h)

  module _ (r : Counted) (e : Some r ≡ counted_of at (drop at t)) where
    pub no_dash : starts_with (45 ∷ []) (drop r.end t) ≡ false → Consensus t at n None
    no_dash h = unread-all (pair-no_dash t at r e h)

    module _ (dash : starts_with (45 ∷ []) (drop r.end t) ≡ true) where
      pub no_second : None ≡ counted_of (r.end + 1) (drop (r.end + 1) t) → Consensus t at n None
      no_second h = unread-all (pair-second t at r e dash h)

      module _ (h : Counted) (f : Some h ≡ counted_of (r.end + 1) (drop (r.end + 1) t)) where
        pub no_update : UpdateKind t h.end None → Consensus t at n None
        no_update (other x y w) = unread (unpairs [] x) (unpairs time_parts y) (unpairs height_parts w)
          where
            unpairs : (ps : List Part) → after_of ps h.end (drop h.end t) ≡ none → tail_of (pair ∷ ps) at (drop at t) ≡ none
            unpairs ps k = pair-some t at r e dash h f ps ∙ rw k

        module _ (b : Bool) (g : b ≡ (r.plain && h.plain)) where
          pairs : (ps : List Part) → after_of ps h.end (drop h.end t) ≡ ended → tail_of (pair ∷ ps) at (drop at t) ≡ some (carried nowhere nowhere r.value h.value) b
          pairs ps k = pair-some t at r e dash h f ps ∙ rw (k, ← g, and-true b)

          pub read_update : (k : ℕ) → UpdateKind t h.end (Some k) → Consensus t at n (Some (record { kind = k; exact = b; first = record { start = 8; len = n }; second = nowhere; a = r.value; b = h.value }))
          read_update _ (over x) = five _ b (pairs [] x)
          read_update _ (time x) = six _ b (pairs time_parts x)
          read_update _ (height x) = seven _ b (pairs height_parts x)

-- the dash
pub dash-end : (t : List ℕ) (q : ℕ) → q ≡ length t → starts_with (45 ∷ []) (drop q t) ≡ false
unfolding starts_with
dash-end t q h = let l : length t ≤ q = omega arith in rw (drop_of_length-le t l)

pub dash-at : (t : List ℕ) (q : ℕ) → q < length t → starts_with (45 ∷ []) (drop q t) ≡ eqb (get_or t q 0) 45
dash-at t q h = (starts-byte 45 (drop q t) (rw length-drop (omega arith)) ∙ rw (get_or-drop, add-zero))

-- ---- the five kinds
clients-apart : apart_all client_kinds ≡ true
unfolding same
clients-apart = refl

module _ (t : List ℕ) (start : starts_with (bytes "clients/") t ≡ true) where
  opened : (ps : List Part) → tail_of (word (bytes "clients") ∷ name Client ∷ ps) 0 t ≡ tail_of (name Client ∷ ps) 8 (drop 8 t)
  unfolding every
  opened ps = word_more (bytes "clients") refl (name Client) ps 0 t ∙ rw start

  nothing_left : ((ps : List Part) → tail_of (word (bytes "clients") ∷ name Client ∷ (word (bytes "consensusStates") ∷ pair ∷ ps)) 0 t ≡ none)
      → tail_of kind4.parts 0 t ≡ none → tail_of kind8.parts 0 t ≡ none → None ≡ flat t (read_first client_kinds t)
  nothing_left h x y =
      sym (ap (flat t) (skip kind4 t x _ ∙ skip kind5 t (h []) _ ∙ skip kind6 t (h time_parts) _ ∙ skip kind7 t (h height_parts) _ ∙ skip kind8 t y []) ∙ none_left t)

  pub client-none : None ≡ nonzero (rule_run check.client (drop 8 t)) → None ≡ flat t (read_first client_kinds t)
  client-none h =
      let no : (ps : List Part) → tail_of (word (bytes "clients") ∷ name Client ∷ ps) 0 t ≡ none = λ ps. opened ps ∙ rule-none Client check.client scans-client t 8 h ps in
      nothing_left (λ ps. no (word (bytes "consensusStates") ∷ pair ∷ ps)) (no state_parts) (no link_parts)

  module _ (n : ℕ) (e : Some n ≡ nonzero (rule_run check.client (drop 8 t))) where
    after-client : (ps : List Part) → tail_of (word (bytes "clients") ∷ name Client ∷ ps) 0 t ≡ with_name Client (record { start = 8; len = n }) (after_of ps (8 + n) (drop (8 + n) t))
    after-client ps = opened ps ∙ rule-some Client check.client scans-client t 8 n e ps

    -- one word more
    pub client-word : (k : ℕ) → WordKind t (8 + n) (Some k) → Some (record { kind = k; exact = true; first = record { start = 8; len = n }; second = nowhere; a = 0; b = 0 }) ≡ flat t (read_first client_kinds t)
    unfolding kinds
    client-word _ (state x) = found kind4 t {es = client_kinds} here clients-apart (kind-has 4 (omega arith) (omega arith)) 4 (λ v. refl) (carried (record { start = 8; len = n }) nowhere 0 0) true (after-client state_parts ∙ rw x)
    client-word _ (links x) = found kind8 t {es = client_kinds} (later (later (later (later here)))) clients-apart (kind-has 8 (omega arith) (omega arith)) 8 (λ v. refl) (carried (record { start = 8; len = n }) nowhere 0 0) true (after-client link_parts ∙ rw x)

    -- or R-h after `/consensusStates/`
    module _ (w : Bool) (is : w ≡ starts_with (bytes "/consensusStates/") (drop (8 + n) t)) where
      after-states : (ps : List Part) → tail_of (word (bytes "clients") ∷ name Client ∷ (word (bytes "consensusStates") ∷ pair ∷ ps)) 0 t
          ≡ with_name Client (record { start = 8; len = n }) (cond w (tail_of (pair ∷ ps) (8 + n + 17) (drop (8 + n + 17) t)) none)
      unfolding every
      after-states ps =
          let i : 8 + n + 15 + 2 ≡ 8 + n + 17 = omega arith in
          after-client (word (bytes "consensusStates") ∷ pair ∷ ps) ∙ rw (after-word (bytes "consensusStates") refl pair ps (8 + n) (drop (8 + n) t), is, drop-drop 17 (8 + n) t, i)

      wordless : WordKind t (8 + n) None → (tail_of kind4.parts 0 t ≡ none) × (tail_of kind8.parts 0 t ≡ none)
      wordless (neither x y) = (after-client state_parts ∙ rw x, after-client link_parts ∙ rw y)

      module _ (kind : WordKind t (8 + n) None) where
        pub client-other : w ≡ false → None ≡ flat t (read_first client_kinds t)
        client-other h = let q = wordless kind in nothing_left (λ ps. after-states ps ∙ rw h) q.0 q.1

        pub client-states : w ≡ true → (r : Option PathView) → Consensus t (8 + n + 17) n r → r ≡ flat t (read_first client_kinds t)
        unfolding kinds
        client-states h _ (unread x y z) = sym (ap (flat t) (skip kind4 t (wordless kind).0 _ ∙ skip kind5 t (after-states [] ∙ rw (h, x)) _ ∙ skip kind6 t (after-states time_parts ∙ rw (h, y)) _ ∙ skip kind7 t (after-states height_parts ∙ rw (h, z)) _ ∙ skip kind8 t (wordless kind).1 []) ∙ none_left t)
        client-states h _ (five v x q) = found kind5 t {es = client_kinds} (later here) clients-apart (kind-has 5 (omega arith) (omega arith)) 5 (λ u. refl) _ x (after-states [] ∙ rw (h, q))
        client-states h _ (six v x q) = found kind6 t {es = client_kinds} (later (later here)) clients-apart (kind-has 6 (omega arith) (omega arith)) 6 (λ u. refl) _ x (after-states time_parts ∙ rw (h, q))
        client-states h _ (seven v x q) = found kind7 t {es = client_kinds} (later (later (later here))) clients-apart (kind-has 7 (omega arith) (omega arith)) 7 (λ u. refl) _ x (after-states height_parts ∙ rw (h, q))
