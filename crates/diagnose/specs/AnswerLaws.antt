-- The score, the nearest kind and the diagnosis, one way out of the code after the other.
-- Assumes nothing.
use Rattle.std.specs.Prelude.{ℕ, ◌+◌, ◌≤◌, ◌<◌, ◌≡◌, Bool, true, false, cond, List, [], ◌∷◌, eqb, ltb, length, drop, Ok, Err}
use Rattle.std.proofs.Common.{sym, ap, ◌∙◌, arith}
use Rattle.std.proofs.Math.Bool.{and-false}
use borrow.Author.Tests.{lt-ltb, le-ltb, eq-eqb, ne_eqb}
use Rattle.text.specs.FaultLaws.{refuses}
use Rattle.text.specs.declared.Fault.{Fault}
use Rattle.text.specs.Bytes.{bytes}
use Rattle.identifiers.specs.Check.{plain, check_of, fault_of}
use Rattle.identifiers.specs.Check as check
use Rattle.path.specs.declared.name.Name.{Name}
use Rattle.path.specs.declared.name.Name.TheVariants.{Client as client, Connection as connection, Port as port, Channel as channel, Upgrade as upgrade}
use Rattle.identifiers.specs.FaultLaws.{plain-placeless}
use Rattle.path.specs.Reading.{Reading}
use Rattle.path.specs.declared.PathView.{PathView}
use Rattle.path.specs.View.{view_of, viewed_by}
use Rattle.path.specs.declared.Refusal.{Refusal}
use Rattle.path.specs.Kinds.{Part, Kind, kinds}
use Rattle.path.specs.Read.{parts_of, read_path, refusal_of}
use Rattle.diagnose.specs.declared.Diagnosis.{Diagnosis}
use Rattle.diagnose.specs.declared.Why.{Why}
use Rattle.diagnose.specs.Diagnosis.{letters, placed, score, nearest_from, nearest, front, why, fault_why, name_why, why_at, seven, how_many, start_at, diagnosis, shown_as, shown, diagnosis_by, diagnosis_of}
use Rattle.diagnose.specs.Table.{parts_in, kind_text}
use Rattle.diagnose.specs.PiecesLaws.{parts-length}
use Rattle.diagnose.specs.PlaceLaws.{byte-within}
use Rattle.diagnose.specs.NearestLaws.{kinds_many, written_as}

-- ---- the score
module _ (n : ℕ) (ps : List Part) (cs : List (List ℕ)) where
  pub score-placed : n ≡ length ps → placed ps cs ≡ true → 1000 ≡ score n ps cs
  unfolding score
  score-placed h k = rw (eq-eqb n (length ps) h, k)

  pub score-other : n ≡ length ps → placed ps cs ≡ false → letters ps cs ≡ score n ps cs
  unfolding score
  score-other h k = rw (k, and-false (eqb n (length ps)))

  pub score-count : (n ≡ length ps → ⊥) → letters ps cs ≡ score n ps cs
  unfolding score
  score-count h = rw (ne_eqb n (length ps) h)

-- by the counts n and m that the code compares
module _ (g t : List ℕ) (n m : ℕ) (a : n ≡ how_many t) (b : m ≡ length (seven g)) where
  same_count : n ≡ m → how_many t ≡ length (parts_in g)
  same_count h = sym a ∙ h ∙ b ∙ sym (parts-length g)

  pub score_else : (n ≡ m → ⊥) → (r : ℕ) → r ≡ letters (parts_in g) (seven t) → r ≡ score (how_many t) (parts_in g) (seven t)
  score_else h r k = k ∙ score-count (how_many t) (parts_in g) (seven t) (λ e. h (a ∙ e ∙ parts-length g ∙ sym b))

  module _ (h : n ≡ m) (v : Bool) (e : v ≡ placed (parts_in g) (seven t)) where
    pub score-full : v ≡ true → 1000 ≡ score (how_many t) (parts_in g) (seven t)
    score-full k = score-placed (how_many t) (parts_in g) (seven t) (same_count h) (sym e ∙ k)

    pub score-rest : v ≡ false → (r : ℕ) → r ≡ letters (parts_in g) (seven t) → r ≡ score (how_many t) (parts_in g) (seven t)
    score-rest k r l = l ∙ score-other (how_many t) (parts_in g) (seven t) (same_count h) (sym e ∙ k)

-- ---- the nearest kind is one of the nineteen, or 0
from-most : (es : List Kind) (k kind best n : ℕ) (cs : List (List ℕ)) → kind ≤ 19 → k + length es ≤ 20 → nearest_from k kind best n es cs ≤ 19
unfolding nearest_from
from-most [] k kind best n cs h l = h
from-most (e ∷ es) k kind best n cs h l = from-most es (k + 1) _ _ n cs (go (ltb best (score n e.parts cs))) (omega arith)
  where
    go : (v : Bool) → cond v k kind ≤ 19
    go true = omega arith
    go false = h

pub nearest-most : (n : ℕ) (cs : List (List ℕ)) → nearest n cs ≤ 19
unfolding nearest
nearest-most n cs = from-most kinds 1 0 4 n cs (omega arith) (omega (arith, kinds_many))

-- ---- an identifier that is plain has no place
pub plain-fault : (least most : ℕ) (c : List ℕ) (n : ℕ) → n ≡ check_of (record { least = least; most = most; form = plain }) c → record { refusal = n; place = 0 } ≡ fault_of (record { least = least; most = most; form = plain }) c
unfolding fault_of
plain-fault least most c n e = refuses n (check_of (record { least = least; most = most; form = plain }) c) 0 (sym e) (rw e (plain-placeless least most c))

-- ---- an identifier, by its name n and what its check says
module _ (n : Name) (c : List ℕ) (r : Why) where
  pub name-client : n ≡ client → (v : ℕ) → v ≡ check_of check.client c → (p : Fault) → p ≡ record { refusal = v; place = 0 } → r ≡ fault_why p 9 64 [] c → r ≡ name_why n c
  unfolding name_why
  name-client e v f p g h = rw e (h ∙ rw (g, plain-fault 9 64 c v f))

  pub name-port : n ≡ port → (v : ℕ) → v ≡ check_of check.port c → (p : Fault) → p ≡ record { refusal = v; place = 0 } → r ≡ fault_why p 2 128 [] c → r ≡ name_why n c
  unfolding name_why
  name-port e v f p g h = rw e (h ∙ rw (g, plain-fault 2 128 c v f))

  pub name-connection : n ≡ connection → (p : Fault) → p ≡ fault_of check.connection c → r ≡ fault_why p 10 64 (bytes "connection-") c → r ≡ name_why n c
  unfolding name_why
  name-connection e p g h = rw e (h ∙ rw g)

  pub name-channel : n ≡ channel → (p : Fault) → p ≡ fault_of check.channel c → r ≡ fault_why p 8 64 (bytes "channel-") c → r ≡ name_why n c
  unfolding name_why
  name-channel e p g h = rw e (h ∙ rw g)

pub name-upgrade : (n : Name) (c : List ℕ) → n ≡ upgrade → why 0 0 ≡ name_why n c
unfolding name_why
name-upgrade n c e = rw e

-- ---- what is shown of a text, held against kind k as it is written
pub shown-none : (t : List ℕ) (r k : ℕ) → k ≡ 0 → diagnosis r 0 1 1 0 ≡ shown t r k
unfolding shown
shown-none t r k h = rw (eq-eqb k 0 h)

module _ (t : List ℕ) (r k : ℕ) (some : k ≡ 0 → ⊥) (few : k ≤ 19) (g : List ℕ) (e : g ≡ kind_text k) where
  as_parts : parts_in g ≡ parts_of k
  as_parts = ap parts_in e ∙ written_as k (omega arith) few

  pub shown-some : (f : ℕ) → f ≡ front (parts_in g) (seven t) → (w : Why) → w ≡ why_at (how_many t) (length (parts_in g)) (drop f (parts_in g)) (drop f (seven t)) → (s : ℕ) → s ≡ start_at t f
      → diagnosis r k (f + 1) w.reason (s + w.place) ≡ shown t r k
  unfolding shown shown_as
  shown-some f a w b s d = rw (ne_eqb k 0 some, ← as_parts, ← a, ← b, ← d)

-- where it is shown
pub byte-room : (n m : ℕ) (ps : List Part) (t : List ℕ) (f : ℕ) (w : Why) → w ≡ why_at n m ps (drop f (seven t)) → (s : ℕ) → s ≡ start_at t f → s + w.place ≤ length t
byte-room n m ps t f w e s g = rw (e, g) (byte-within n m ps t f)

-- ---- the diagnosis by what the text reads as
by-view : (t : List ℕ) (v : PathView) (x : Reading) → Ok v ≡ viewed_by x → diagnosis 0 v.kind 0 0 0 ≡ diagnosis_by t x
unfolding viewed_by view_of diagnosis_by
by-view t v (Ok r) h = let k : v ≡ view_of r.path r.exact = cc in ap (λ (y : PathView). diagnosis 0 y.kind 0 0 0) k
by-view t v (Err w) h = let z : ◌≡◌ {A = ℕ} 0 1 = cc in absurd (omega arith)

pub told-read : (t : List ℕ) (v : PathView) → Ok v ≡ viewed_by (read_path t) → diagnosis 0 v.kind 0 0 0 ≡ diagnosis_of t
unfolding diagnosis_of
told-read t v h = by-view t v (read_path t) h

un-view : (w : Refusal) (x : Reading) → Err w ≡ viewed_by x → x ≡ Err w
unfolding viewed_by
un-view w (Ok r) h = let z : ◌≡◌ {A = ℕ} 0 1 = cc in absurd (omega arith)
un-view w (Err v) h = let k : w ≡ v = cc in ap Err (sym k)

pub told-refused : (t : List ℕ) (w : Refusal) → Err w ≡ viewed_by (read_path t) → read_path t ≡ Err w
told-refused t w h = un-view w (read_path t) h

module _ (t : List ℕ) (w : Refusal) (e : read_path t ≡ Err w) (n : ℕ) (f : n ≡ refusal_of w) where
  pub told-bare : n < 3 → diagnosis n 0 0 0 0 ≡ diagnosis_of t
  unfolding diagnosis_of diagnosis_by
  told-bare h = rw (e, ← f, lt-ltb n 3 h)

  pub told-shown : 3 ≤ n → (d : Diagnosis) → d ≡ shown t n (nearest (how_many t) (seven t)) → d ≡ diagnosis_of t
  unfolding diagnosis_of diagnosis_by
  told-shown h d k = rw (e, ← f, le-ltb n 3 h) k
