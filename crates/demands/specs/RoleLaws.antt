-- What a key is to a client, by the path that it reads as.
-- Assumes nothing.
use Rattle.std.specs.Prelude.{◌≡◌, refl, Bool, true, false, cond, List, [], ◌∷◌, ◌⊎◌, ℕ, ◌-◌, ◌≤◌, eqb, get_or}
use Rattle.std.proofs.Common.{sym, subst, ◌∙◌, inl, inr, ⊎_elim, eqb-true, eq-eqb, ne_eqb}
use Rattle.std.proofs.Math.Path.{ap}
use Rattle.text.specs.Part.{same}
use Rattle.text.specs.PartLaws.{same-is, same_refl}
use Rattle.path.specs.declared.Revision.{Revision}
use Rattle.path.specs.declared.Path.{Path}
use Rattle.path.specs.Reading.{Read}
use Rattle.path.specs.Kinds.{Carried}
use Rattle.path.specs.Read.{read_path, texts_of}
use Rattle.path.specs.Revision.{revision}
use Rattle.path.specs.Text.{shown_of}
use Rattle.path.specs.View.{kind_of, carried_of}
use Rattle.path.specs.Valid.{ReadsAs}
use Rattle.path.specs.BackLaws.{read_reads, key-exact, reads_as-renders}
use Rattle.path.specs.PlaceLaws.{shown_read}
use Rattle.writers.specs.Texts.{client_texts}
use Rattle.writers.specs.TextLaws.{client-text}
use Rattle.book_records.specs.Records.{Key}
use Rattle.book_records.specs.Calls.{owner_of, Owned, Exact}
use Rattle.book_clear.specs.declared.role.Role.{Role}
use Rattle.book_clear.specs.declared.role.Role.TheVariants.{State, Beside, Other}
use Rattle.book_clear.specs.Clear.{role_at, role_by, role_of, own_role}
use Rattle.book_clear.specs.RankLaws.{clash}
use Rattle.book_clear.specs.ClearLaws.{no-state_beside, no-state-other, no_beside-other}
use Rattle.demands.specs.ClearCall.{Of}

-- ---- a role by its tests
abbrev tested : Bool → Bool → Bool → Bool → Revision → Role
tested mine five six seven r = cond mine (cond five (State r) (cond six (Beside r) (cond seven (Beside r) Other))) Other

state_tests : (a b c d : Bool) (r p : Revision) → tested a b c d r ≡ State p → (a ≡ true) × (b ≡ true) × (r ≡ p)
state_tests true true c d r p e = (refl, refl, let z : r ≡ p = cc in z)
state_tests true false true d r p e = no-state_beside (sym e)
state_tests true false false true r p e = no-state_beside (sym e)
state_tests true false false false r p e = no-state-other (sym e)
state_tests false b c d r p e = no-state-other (sym e)

beside_tests : (a b c d : Bool) (r p : Revision) → tested a b c d r ≡ Beside p → (a ≡ true) × ((c ≡ true) ⊎ (d ≡ true)) × (r ≡ p)
beside_tests true true c d r p e = no-state_beside e
beside_tests true false true d r p e = (refl, inl refl, let z : r ≡ p = cc in z)
beside_tests true false false true r p e = (refl, inr refl, let z : r ≡ p = cc in z)
beside_tests true false false false r p e = no_beside-other (sym e)
beside_tests false b c d r p e = no_beside-other (sym e)

-- ---- a text that reads as a path of the client
module _ (client t : List ℕ) where
  role-by : (q : Path) (x : Bool) → read_path t ≡ Read q x
      → role_of client t ≡ tested (same (shown_of t (carried_of q).first) client) (eqb (kind_of q) 5) (eqb (kind_of q) 6) (eqb (kind_of q) 7) (revision (carried_of q).a (carried_of q).b)
  unfolding role_of
  role-by q x e = ap (role_by client t) e

  -- its client, as it is shown
  first-shown : (q : Path) (x : Bool) → read_path t ≡ Read q x → shown_of t (carried_of q).first ≡ (texts_of t (carried_of q)).first
  first-shown q x e = (shown_read t q (read_reads t q x e)).0

  module _ (p : Revision) (kind : ℕ) (v : Carried (List ℕ)) (r : ReadsAs t kind v) (c : v.first ≡ client) (e : revision v.a v.b ≡ p) where
    mine : same (shown_of t (carried_of r.path).first) client ≡ true
    mine = ap (λ (l : List ℕ). same l client) (first-shown r.path true r.read ∙ ap (λ (w : Carried (List ℕ)). w.first) r.carried ∙ c) ∙ same_refl client

    told : role_of client t ≡ role_at kind p
    told =
        role-by r.path true r.read
        ∙ rw (mine, r.kind) (ap (role_at kind) (ap (λ (w : Carried (List ℕ)). revision w.a w.b) r.carried ∙ e))

-- ---- a key
module _ (owner : ℕ) (client : List ℕ) where
  pub own-front : (t : List ℕ) → own_role owner client (owner ∷ t) ≡ role_of client t
  unfolding own_role
  own-front t = rw (eq-eqb owner owner refl)

  -- another owner's is nothing to it
  pub elsewhere : (k : Key) → (owner_of k ≡ owner → ⊥) → own_role owner client k ≡ Other
  unfolding own_role
  elsewhere k n = rw (ne_eqb (owner_of k) owner n)

  of-role : (kind : ℕ) (p : Revision) (k : Key) → Of kind owner client p k → own_role owner client k ≡ role_at kind p
  of-role kind p k o = ap (own_role owner client) o.is ∙ own-front o.text ∙ told client o.text p kind o.parts o.reads o.client_is o.revision_is

  pub of-state : (p : Revision) (k : Key) → Of 5 owner client p k → own_role owner client k ≡ State p
  of-state p k o = of-role 5 p k o

  pub of-time : (p : Revision) (k : Key) → Of 6 owner client p k → own_role owner client k ≡ Beside p
  of-time p k o = of-role 6 p k o

  pub of-height : (p : Revision) (k : Key) → Of 7 owner client p k → own_role owner client k ≡ Beside p
  of-height p k o = of-role 7 p k o

  -- and of a key of a book the other way round
  module _ (t : List ℕ) (exact : Exact t) where
    abbrev is_mine : Bool
    is_mine = same (shown_of t (carried_of (key-exact t t exact).0).first) client

    abbrev number : ℕ
    number = kind_of (key-exact t t exact).0

    abbrev at : Revision
    at = revision (carried_of (key-exact t t exact).0).a (carried_of (key-exact t t exact).0).b

    by_tests : role_of client t ≡ tested is_mine (eqb number 5) (eqb number 6) (eqb number 7) at
    by_tests = role-by client t (key-exact t t exact).0 true (key-exact t t exact).1

    made : (kind : ℕ) (p : Revision) → is_mine ≡ true → eqb number kind ≡ true → at ≡ p → Of kind owner client p (owner ∷ t)
    made kind p m n e = record {
      text = t;
      parts = texts_of t (carried_of (key-exact t t exact).0);
      is = refl;
      reads = record { path = (key-exact t t exact).0; read = (key-exact t t exact).1; kind = eqb-true number kind n; carried = refl };
      client_is = sym (first-shown client t (key-exact t t exact).0 true (key-exact t t exact).1) ∙ same-is (shown_of t (carried_of (key-exact t t exact).0).first) client m;
      revision_is = e;
    }

    state-there : (p : Revision) → role_of client t ≡ State p → Of 5 owner client p (owner ∷ t)
    state-there p e = let w = state_tests is_mine (eqb number 5) (eqb number 6) (eqb number 7) at p (sym by_tests ∙ e) in made 5 p w.0 w.1 w.2

    beside-there : (p : Revision) → role_of client t ≡ Beside p → Of 6 owner client p (owner ∷ t) ⊎ Of 7 owner client p (owner ∷ t)
    beside-there p e =
        let w = beside_tests is_mine (eqb number 5) (eqb number 6) (eqb number 7) at p (sym by_tests ∙ e) in
        ⊎_elim (λ n. inl (made 6 p w.0 n w.2)) (λ n. inr (made 7 p w.0 n w.2)) w.1

  -- a key that is something to the client is the owner's
  pub own_key : (k : Key) → Owned k → (own_role owner client k ≡ Other → ⊥) → (t : List ℕ) × (k ≡ owner ∷ t) × Exact t
  own_key [] h n = absurd h
  own_key (o ∷ t) h n = go (eqb o owner) refl
    where
      go : (v : Bool) → eqb o owner ≡ v → (u : List ℕ) × (o ∷ t ≡ owner ∷ u) × Exact u
      go true e = (t, ap (λ (m : ℕ). m ∷ t) (eqb-true o owner e), h.1)
      go false e = absurd (n (elsewhere (o ∷ t) (λ q. clash (eqb o owner) (eq-eqb o owner q) e)))

  pub state_of : (p : Revision) (k : Key) → Owned k → own_role owner client k ≡ State p → Of 5 owner client p k
  state_of p k h e =
      let w = own_key k h (λ q. no-state-other (sym e ∙ q)) in
      subst (Of 5 owner client p) (sym w.1) (state-there w.0 w.2 p (sym (own-front w.0) ∙ ap (own_role owner client) (sym w.1) ∙ e))

  pub beside_of : (p : Revision) (k : Key) → Owned k → own_role owner client k ≡ Beside p → Of 6 owner client p k ⊎ Of 7 owner client p k
  beside_of p k h e =
      let w = own_key k h (λ q. no_beside-other (sym e ∙ q)) in
      subst (λ (j : Key). Of 6 owner client p j ⊎ Of 7 owner client p j) (sym w.1) (beside-there w.0 w.2 p (sym (own-front w.0) ∙ ap (own_role owner client) (sym w.1) ∙ e))

-- the revision tells the path
pub one_key : (kind owner : ℕ) (client : List ℕ) (p : Revision) (j k : Key) → 4 ≤ kind → kind ≤ 8 → Of kind owner client p j → Of kind owner client p k → j ≡ k
one_key kind owner client p j k lo hi x y = x.is ∙ ap (λ (t : List ℕ). owner ∷ t) (shows x ∙ sym (shows y)) ∙ sym y.is
  where
    shows : {k : Key} (z : Of kind owner client p k) → z.text ≡ get_or (client_texts client p.number.0 p.height.0) (kind - 4) []
    shows z =
        sym (reads_as-renders z.reads) ∙ client-text z.parts kind lo hi
        ∙ ap (λ (c : List ℕ). get_or (client_texts c z.parts.a z.parts.b) (kind - 4) []) z.client_is
        ∙ ap (λ (q : Revision). get_or (client_texts client q.number.0 q.height.0) (kind - 4) []) z.revision_is
