-- Laws of the short reading of a state's key: two numbers in plain digits behind the client's stem.
-- Assumes nothing.
use Rattle.std.specs.Prelude.{◌≡◌, Bool, List, [], ◌∷◌, ◌++◌, ℕ, suc, ◌+◌, ◌≤◌, ◌<◌, ◌^◌, length, take, drop, get_or, Some}
use Rattle.std.proofs.Math.Path.{refl, sym, ap}
use Rattle.std.proofs.Common.{◌∙◌, add-one, arith, length-append, length-take, take-append-drop, drop_of_length-le, drop-cons, drop-drop, eqb-true}
use Rattle.std.proofs.Math.Bool.{true, cond}
use Rattle.text.specs.Number.{decimal, numeral_of}
use Rattle.text.specs.NumberLaws.{decimal-no-longer}
use Rattle.text.specs.Part.{same, starts_with}
use Rattle.text.specs.PartLaws.{same_refl}
use Rattle.identifiers.specs.Check.{check_of}
use Rattle.identifiers.specs.Check as check
use Rattle.path.specs.Kinds.{Carried, carried, kinds}
use Rattle.path.specs.Read.{number_in, render, parts_of, names_fault, name_fault}
use Rattle.path.specs.Text.{shown_of, part_of}
use Rattle.path.specs.Valid.{ReadsAs, only}
use Rattle.path.specs.BackLaws.{rendered-back, read_reads, read_short, number_u64, key-read}
use Rattle.path.specs.ExactLaws.{value-is}
use Rattle.path.specs.PlaceLaws.{shown_read}
use Rattle.path.specs.Revision.{revision}
use Rattle.path.specs.View.{kind_of, carried_of}
use Rattle.walk_scan.specs.declared.number.Counted.{Counted}
use Rattle.walk_scan.specs.Number.{num_text, num_len, counted_of}
use Rattle.walk_scan.specs.CountLaws.{count-yes, count-is, count-within}
use Rattle.writers.specs.Texts.{consensus_text}
use Rattle.writers.specs.Texts as texts
use Rattle.writers.specs.TextLaws.{client-text}
use Rattle.book_records.specs.Calls.{Exact}
use Rattle.book_clear.specs.declared.role.Role.TheVariants.{State, Other}
use Rattle.book_clear.specs.Clear.{role_at, role_of}
use Rattle.book_clear.specs.Notes.{stem, PlainState}
use Rattle.book_clear.specs.RoleLaws.{role-by, stem-own, starts-take}

-- ---- a number in plain digits is its decimal
module _ (t : List ℕ) (at : ℕ) (r : Counted) (e : Some r ≡ counted_of at (drop at t)) (p : r.plain ≡ true) where
  plain-is : decimal r.value ≡ num_text (drop at t)
  plain-is =
      let c : List ℕ = num_text (drop at t) in
      let q = count-is at (drop at t) r e in
      let n = count-yes at (drop at t) r e in
      let l : length (decimal (number_in (num_text (drop at t)))) ≡ length (num_text (drop at t)) = eqb-true (length (decimal (number_in (num_text (drop at t))))) (length (num_text (drop at t))) (sym q.2 ∙ p) in
      ap decimal q.0 ∙ (decimal-no-longer (num_text (drop at t)) (number_in (num_text (drop at t))) (value-is (numeral_of (num_text (drop at t))) n)).1 l

  pub plain-drop : drop at t ≡ decimal r.value ++ drop r.end t
  plain-drop =
      let q = count-is at (drop at t) r e in
      sym (take-append-drop (num_len (drop at t)) (drop at t))
      ∙ ap (λ (z : List ℕ). z ++ drop (num_len (drop at t)) (drop at t)) (sym plain-is)
      ∙ ap (λ (z : List ℕ). decimal r.value ++ z) (drop-drop (num_len (drop at t)) at t ∙ ap (λ (m : ℕ). drop m t) (sym q.1))

  pub plain_u64 : r.value < 2 ^ 64
  plain_u64 = let q = count-is at (drop at t) r e in rw q.0 (number_u64 (num_text (drop at t)))

-- so two of them with a dash between them, at the end of a text, are R-h
pub pair-plain : (t : List ℕ) (at : ℕ) (r h : Counted) → Some r ≡ counted_of at (drop at t) → r.plain ≡ true → r.end < length t → get_or t r.end 0 ≡ 45 → Some h ≡ counted_of (r.end + 1) (drop (r.end + 1) t) → h.plain ≡ true → h.end ≡ length t → drop at t ≡ texts.revision r.value h.value []
pair-plain t at r h e p l d f q z =
    let o : length t ≤ h.end = omega arith in
    plain-drop t at r e p
    ∙ ap (λ (w : List ℕ). decimal r.value ++ w)
    (
    drop-cons t r.end 0 l
    ∙ ap (λ (b : ℕ). b ∷ drop (suc r.end) t) d
    ∙ ap (λ (m : ℕ). 45 ∷ drop m t) (sym (add-one r.end))
    ∙ ap (λ (w : List ℕ). 45 ∷ w) (plain-drop t (r.end + 1) h f q ∙ ap (λ (w : List ℕ). decimal h.value ++ w) (drop_of_length-le t o))
    )

-- what the short reading gives
pub plain-state : (t : List ℕ) (at : ℕ) (r h : Counted) → Some r ≡ counted_of at (drop at t) → r.plain ≡ true → r.end < length t → get_or t r.end 0 ≡ 45 → Some h ≡ counted_of (r.end + 1) (drop (r.end + 1) t) → h.plain ≡ true → h.end ≡ length t → PlainState t at (Some (revision r.value h.value))
plain-state t at r h e p l d f q z = (pair-plain t at r h e p l d f q z, plain_u64 t at r e p, plain_u64 t (r.end + 1) h f q)

-- a plain number ends in the text
pub plain-within : (t : List ℕ) (at : ℕ) (r : Counted) → Some r ≡ counted_of at (drop at t) → at ≤ length t → r.end ≤ length t
plain-within t at r e l = (count-within t at r e l).1

-- what begins with a stem is as long
pub stem-room : (client k : List ℕ) → starts_with (stem client) k ≡ true → length client + 25 ≤ length k
stem-room client k s =
    let e : length (stem client) ≡ length client + 25 = simp length-append (omega arith) in
    omega (arith, e, ap length (starts-take (stem client) k s), length-take (length (stem client)) k)

-- ---- and behind the client's stem that is the key of a state
module _ (client k : List ℕ) (ok : check_of check.client client ≡ 0) (x : Exact k) (s : starts_with (stem client) k ≡ true) (at : ℕ) (ea : at ≡ length client + 25) (a b : ℕ) (P : PlainState k at (Some (revision a b))) where
  tail : drop at k ≡ texts.revision a b []
  tail = P.0

  at-is : at ≡ length (stem client)
  at-is = simp length-append (omega arith)

  text-is : k ≡ consensus_text client a b []
  text-is =
      sym (take-append-drop at k)
      ∙ ap (λ (m : ℕ). take m k ++ drop at k) at-is
      ∙ ap (λ (z : List ℕ). z ++ drop at k) (starts-take (stem client) k s)
      ∙ ap (λ (z : List ℕ). stem client ++ z) tail
      ∙ sym (stem-own client a b [])

  abbrev v : Carried (List ℕ)
  v = carried client [] a b

  rendered : render (parts_of 5) v ≡ k
  rendered = client-text v 5 (omega arith) (omega arith) ∙ sym text-is

  short : length (render (parts_of 5) v) ≤ 4096
  short = let q = key-read k k x in rw rendered (read_short k q.0 q.1 q.2)

  named : names_fault (parts_of 5) v ≡ 0
  unfolding parts_of kinds names_fault name_fault
  named = rw ok

  all_of_it : only (parts_of 5) v ≡ v
  unfolding parts_of kinds
  all_of_it = refl

  reads_as : ReadsAs k 5 v
  reads_as = rw (rendered, all_of_it) at (rendered-back 5 v (record { least = omega arith; most = omega arith; names = named; a = P.1; b = P.2; size = short }))

  pub note-five : State (revision a b) ≡ role_of client k
  note-five =
      let R = reads_as in
      let f : part_of k (carried_of R.path).first ≡ client = ap (λ (w : Carried (List ℕ)). w.first) R.carried in
      let g : shown_of k (carried_of R.path).first ≡ client = (shown_read k R.path (read_reads k R.path true R.read)).0 ∙ f in
      let m : (carried_of R.path).a ≡ a = ap (λ (w : Carried (List ℕ)). w.a) R.carried in
      let n : (carried_of R.path).b ≡ b = ap (λ (w : Carried (List ℕ)). w.b) R.carried in
      sym (
      role-by client k R.path true R.read
      ∙ ap (λ (z : List ℕ). cond (same z client) (role_at (kind_of R.path) (revision (carried_of R.path).a (carried_of R.path).b)) Other) g
      ∙ ap (λ (z : Bool). cond z (role_at (kind_of R.path) (revision (carried_of R.path).a (carried_of R.path).b)) Other) (same_refl client)
      ∙ ap (λ (z : ℕ). role_at z (revision (carried_of R.path).a (carried_of R.path).b)) R.kind
      ∙ ap (λ (z : ℕ). role_at 5 (revision z (carried_of R.path).b)) m
      ∙ ap (λ (z : ℕ). role_at 5 (revision a z)) n
      )
