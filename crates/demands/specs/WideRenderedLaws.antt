-- When the writing of a wide key is refused, from when wide reading is.
-- Assumes nothing.
use Rattle.std.specs.Prelude.{ℕ, ◌≤◌, ◌≡◌, List, length, replicate, Ok, Err, Option, Some, None}
use Rattle.std.proofs.Math.Path.{refl, sym, ap}
use Rattle.std.proofs.Common.{◌∙◌, arith}
use Rattle.text.specs.Part.{same}
use Rattle.text.specs.Put.{answer}
use Rattle.text.specs.declared.Fault.{Fault}
use Rattle.text.specs.declared.Written.{Written}
use Rattle.path.specs.Reading.{Reading}
use Rattle.path.specs.Number.{NumberWrong}
use Rattle.path.specs.Read.{render_path, refusal_of}
use Rattle.path.specs.BackLaws.{read_reads}
use Rattle.letters.specs.Character.{utf8}
use Rattle.letters.specs.Narrow.{narrow}
use Rattle.letters.specs.NarrowLaws.{length-narrow, narrow-ascii}
use Rattle.wide.specs.Mode.{wide}
use Rattle.wide.specs.Read.{read_in, key_in, reading_bytes_in, read_fault_in}
use Rattle.demands.specs.WideWritten.{fits_wide, NoWideKind, WhenWideRead}
use Rattle.demands.specs.WideLaws as laws
use Rattle.demands.specs.WideCallLaws.{opened}
use Rattle.demands.specs.KeyedLaws.{refusal-some, Reading26, Way, unread, read, when-keyed-by, is_read}
use Rattle.demands.specs.WideRendered.{WhenWideKeyed}

other-some : wide.other ≡ 0 → ⊥
unfolding wide
other-some h = omega (arith, h)

module _ (t out : List ℕ) (x : Written) (e : x ≡ answer (key_in wide t) (length out)) where
  abbrev room26 : List ℕ
  room26 = replicate 26 0

  abbrev fault26 : Fault
  fault26 = read_fault_in wide t (length room26)

  when26 : WhenWideRead t room26 fault26
  when26 = laws.when-wide t room26 fault26 refl

  rows : Reading26 utf8 21 narrow NoWideKind (NumberWrong fits_wide) t out x fault26
  rows =
      record {
        too_long_when = when26.too_long_when;
        not_taken = when26.bad_utf8_when;
        not_a_path_when = when26.not_a_path_when;
        bad_number = when26.bad_number;
        room = λ q. omega (arith, (when26.no_room_when.0 q).3);
        done = λ q. let p = q.2.0 in let l : length (narrow t) ≤ 4096 = omega (arith, length-narrow t, q.0) in
            when26.done.1 (q.0, q.1, laws.read-kind t q.1 (p, same (narrow t) (render_path (narrow t) p), is_read (narrow t) p l (narrow-ascii t) q.2.1), omega arith);
      }

  way : Way utf8 21 narrow NoWideKind (NumberWrong fits_wide) t out x fault26
  unfolding key_in read_fault_in reading_bytes_in answer
  way = go (read_in wide t) refl
    where
      go : (y : Option Reading) → read_in wide t ≡ y → Way utf8 21 narrow NoWideKind (NumberWrong fits_wide) t out x fault26
      go None h =
          let f : fault26.refusal ≡ wide.other = rw h in
          let k : x.refusal ≡ wide.other = ap (λ (y : Written). y.refusal) e ∙ rw h in
          unread (λ q. other-some (sym f ∙ q)) (f ∙ sym k)
      go (Some (Err r)) h =
          let f : fault26.refusal ≡ refusal_of r = rw h in
          let k : x.refusal ≡ refusal_of r = ap (λ (y : Written). y.refusal) e ∙ rw h in
          unread (λ q. refusal-some r (sym f ∙ q)) (f ∙ sym k)
      go (Some (Ok r)) h =
          let o = opened t r.path r.exact h in
          read (when26.done.1 (o.0, o.1, laws.read-kind t o.1 (r.path, r.exact, o.2), omega arith)) o.0 o.1 r.path (read_reads (narrow t) r.path r.exact o.2) (ap (λ (y : Written). y.refusal) e ∙ rw h)

  pub when_wide_keyed : WhenWideKeyed t out x
  when_wide_keyed = when-keyed-by utf8 21 narrow NoWideKind (NumberWrong fits_wide) t out x fault26 rows (λ q. omega (arith, q), λ q. omega (arith, q)) way
