-- The exits of the walks that end with an identifier or a sequence.
-- Assumes nothing.
use Rattle.std.specs.Prelude.{ℕ, ◌+◌, ◌≤◌, ◌≡◌, Bool, true, false, cond, ltb, length, drop, Some, None}
use Rattle.std.proofs.Math.Path.{refl}
use Rattle.std.proofs.Common.{◌∙◌, length-drop}
use mathlib.Core.List.{List, [], ◌∷◌}
use Rattle.std.proofs.Math.Bool.{and-true}
use native.Mathlib.Omega.{arith}
use Rattle.std.proofs.Math.Seq.{drop-drop}
use Rattle.text.specs.Bytes.{bytes}
use Rattle.text.specs.Part.{every, starts_with}
use Rattle.identifiers.specs.Check as check
use Rattle.path.specs.declared.name.Name.{Name}
use Rattle.path.specs.declared.name.Name.TheVariants.{Port, Channel}
use Rattle.path.specs.Text.{nowhere}
use Rattle.path.specs.Kinds.{name, count, word, carried, set_name}
use Rattle.path.specs.View.{seen}
use Rattle.walk_scan.specs.declared.number.Counted.{Counted}
use Rattle.walk_scan.specs.CountLaws.{count-within}
use Rattle.walk_scan.specs.Number.{counted_of}
use Rattle.walk_scan.specs.Run.{nonzero, rule_run}
use Rattle.walk_scan.specs.Tail.{none, tail_of}
use Rattle.walk_scan.specs.TailLaws.{Scans, after-end, after_more, after-word}
use Rattle.walk_families.specs.declared.ends.Ends.{Ends}
use Rattle.walk_families.specs.Flat.{walked, ends_parts, packet_parts, ends_of}
use Rattle.walk_families.specs.Ends.{with_name, EndsAt, NoEnds}
use Rattle.walk_families.specs.PieceLaws.{rule-none, rule-some, count_none, count-some}

-- ---- an identifier, and the text's end
module _ (k : ℕ) (i : Name) (r : check.Rule) (scans : Scans (name i) (λ s. ltb 0 (rule_run r s)) (rule_run r)) (t : List ℕ) (at : ℕ) where
  pub last_none : None ≡ nonzero (rule_run r (drop at t)) → None ≡ walked k (tail_of (name i ∷ []) at (drop at t))
  last_none h = rw (rule-none i r scans t at h [])

  module _ (n : ℕ) (h : Some n ≡ nonzero (rule_run r (drop at t))) where
    pub last-longer : at + n ≤ length t → (at + n ≡ length t → ⊥) → None ≡ walked k (tail_of (name i ∷ []) at (drop at t))
    last-longer l m = rw (rule-some i r scans t at n h [], after_more (at + n) (drop (at + n) t) (rw length-drop (omega (arith, m))))

    pub last_name : at + n ≡ length t → Some (seen k true (set_name i (record { start = at; len = n }) (carried nowhere nowhere 0 0))) ≡ walked k (tail_of (name i ∷ []) at (drop at t))
    last_name m = rw (rule-some i r scans t at n h [], after-end (at + n) (drop (at + n) t) (rw length-drop (omega arith)))

-- ---- kinds 11 to 14, and 15 to 17
pub after_nothing : (k : ℕ) (t : List ℕ) (at : ℕ) → NoEnds t at → None ≡ walked k (tail_of (ends_of k) at (drop at t))
after_nothing k t at x = go (ltb k 15)
  where
    go : (v : Bool) → None ≡ walked k (tail_of (cond v ends_parts packet_parts) at (drop at t))
    go true = rw (x [])
    go false = rw (x (word (bytes "sequences") ∷ count ∷ []))

module _ (k : ℕ) (t : List ℕ) (at : ℕ) (r : Ends) (x : EndsAt t at r) where
  abbrev end : ℕ
  end = at + r.port + 10 + r.channel

  pub ends-longer : (end ≡ length t → ⊥) → None ≡ walked k (tail_of ends_parts at (drop at t))
  ends-longer m = rw (x.both [], after_more end (drop end t) (rw length-drop (omega (arith, m, x.within))))

  pub ends_read : end ≡ length t → Some (seen k true (carried (record { start = at; len = r.port }) (record { start = at + r.port + 10; len = r.channel }) 0 0)) ≡ walked k (tail_of ends_parts at (drop at t))
  ends_read m = rw (x.both [], after-end end (drop end t) (rw length-drop (omega arith)))

  module _ (v : Bool) (w : v ≡ starts_with (bytes "/sequences/") (drop end t)) where
    packet-word : tail_of packet_parts at (drop at t)
        ≡ with_name Port (record { start = at; len = r.port }) (with_name Channel (record { start = at + r.port + 10; len = r.channel }) (cond v (tail_of (count ∷ []) (end + 11) (drop (end + 11) t)) none))
    unfolding every
    packet-word =
        let i : end + 9 + 2 ≡ end + 11 = omega arith in
        x.both (word (bytes "sequences") ∷ count ∷ []) ∙ rw (after-word (bytes "sequences") refl count [] end (drop end t), w, drop-drop 11 end t, i)

    pub packet-no-word : v ≡ false → None ≡ walked k (tail_of packet_parts at (drop at t))
    packet-no-word h = rw (packet-word, h)

    module _ (h : v ≡ true) where
      pub packet-no_number : None ≡ counted_of (end + 11) (drop (end + 11) t) → None ≡ walked k (tail_of packet_parts at (drop at t))
      packet-no_number e = rw (packet-word, h, count_none t (end + 11) e [])

      module _ (n : Counted) (e : Some n ≡ counted_of (end + 11) (drop (end + 11) t)) where
        pub packet-longer : end + 11 ≤ length t → (n.end ≡ length t → ⊥) → None ≡ walked k (tail_of packet_parts at (drop at t))
        packet-longer l m =
            let b = (count-within t (end + 11) n e l).1 in
            rw (packet-word, h, count-some t (end + 11) n e [], after_more n.end (drop n.end t) (rw length-drop (omega (arith, b, m))))

        pub packet-read : n.end ≡ length t → Some (seen k n.plain (carried (record { start = at; len = r.port }) (record { start = at + r.port + 10; len = r.channel }) n.value 0)) ≡ walked k (tail_of packet_parts at (drop at t))
        packet-read m = rw (packet-word, h, count-some t (end + 11) n e [], after-end n.end (drop n.end t) (rw length-drop (omega arith)), and-true n.plain)
