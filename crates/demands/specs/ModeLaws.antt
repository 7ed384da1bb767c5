-- What the checks of identifiers give in either mode: each number of theirs, and when it is the refusal of what the mode does not take or of a slash.
-- Assumes nothing.
use Prim.Native.Nat.{ℕ}
use Rattle.std.specs.Prelude.{◌≡◌, ◌↔◌, Bool, ◌&&◌, List, [], ◌∷◌, eqb, length}
use Rattle.std.proofs.Math.Path.{refl}
use Rattle.std.proofs.Common.{sym, subst, ◌∙◌, arith}
use Rattle.std.proofs.Math.Bool.{true, false, not}
use Rattle.std.proofs.Math.Dec.{leb}
use Rattle.std.proofs.lemmas.Bool.{eqb-false}
use Rattle.text.specs.Part.{every, ascii}
use Rattle.text.specs.Put.{answer}
use Rattle.text.specs.declared.Written.{Written}
use Rattle.identifiers.specs.Check.{first, unless, identifier_byte, within, Rule, Form, plain as free, indexed, form_of}
use Rattle.identifiers.specs.Check as check
use Rattle.identifiers.specs.CheckLaws.{first_some}
use Rattle.path.specs.declared.name.Name.{Name}
use Rattle.path.specs.declared.name.Name.TheVariants.{Client, Connection, Port, Channel, Upgrade}
use Rattle.path.specs.Kinds.{Part, word, name, count, pair, Carried}
use Rattle.path.specs.Read.{name_fault, names_fault, render_of}
use Rattle.letters.specs.Character.{utf8}
use Rattle.wide.specs.Mode.{Mode, plain, wide}
use Rattle.wide.specs.Check.{chars_in, check_in}
use Rattle.wide.specs.Render.{name_fault_in, names_fault_in, render_in}
use Rattle.wide.proofs.PlainLaws.{name-plain}
use Rattle.demands.specs.ShapeLaws.{one_of, both_of, named-number}
use Rattle.demands.specs.Rendered.{OfAName, WhenRendered, WhenRenderedBy}
use Rattle.demands.specs.RenderedLaws.{Apart, Checks, names_by, when_rendered}

apart_by : (r : ℕ) → eqb r 14 ≡ false → eqb r 1 ≡ false → eqb r 4 ≡ false → Apart r
apart_by r a b c = record { kind = eqb-false r 14 a; length = eqb-false r 1 b; room = eqb-false r 4 c }

name_by : (r : ℕ) → eqb r 0 ≡ false → eqb r 14 ≡ false → eqb r 1 ≡ false → eqb r 4 ≡ false → OfAName r
name_by r a b c d = record { no_zero = eqb-false r 0 a; no_kind = eqb-false r 14 b; no_length = eqb-false r 1 c; no_room_when = eqb-false r 4 d }

-- what holds of every number that a check gives of a text that is taken
record Numbers (P : ℕ → Type 0) : Type 0 where
  pub zero : P 0
  pub char : P 5
  pub size : P 6
  pub prefix : P 7
  pub none : P 17
  pub digit : P 18
  pub large : P 19

numbers_but : (x : ℕ) → eqb 0 x ≡ false → eqb 5 x ≡ false → eqb 6 x ≡ false → eqb 7 x ≡ false → eqb 17 x ≡ false → eqb 18 x ≡ false → eqb 19 x ≡ false → Numbers (λ r. r ≡ x → ⊥)
numbers_but x a b c d e f g = record { zero = eqb-false 0 x a; char = eqb-false 5 x b; size = eqb-false 6 x c; prefix = eqb-false 7 x d; none = eqb-false 17 x e; digit = eqb-false 18 x f; large = eqb-false 19 x g }

module _ (m : Mode) where
  -- ---- a text that is taken
  module _ (P : ℕ → Type 0) (ps : Numbers P) (c : List ℕ) (t : m.takes c ≡ true) where
    form_on : (f : Form) → P (form_of f c)
    form_on free = ps.zero
    form_on (indexed n) = named-number P ps.zero ps.prefix ps.none ps.digit ps.large n c

    chars_on : P (chars_in m c)
    unfolding chars_in
    chars_on = rw t (one_of P ps.zero 5 (every identifier_byte (m.seen c)) ps.char)

    within_on : (least most : ℕ) → P (within least most (length c))
    unfolding within
    within_on least most = one_of P ps.zero 6 (leb least (length c) && leb (length c) most) ps.size

    check_on : (r : Rule) → P (check_in m r c)
    unfolding check_in
    check_on r =
        let w : ℕ = within r.least r.most (length c) in
        both_of P ps.zero (chars_in m c) (first w (form_of r.form c)) chars_on (both_of P ps.zero w (form_of r.form c) (within_on r.least r.most) (form_on r.form))

    name_on : P 13 → (n : Name) → P (name_fault_in m n c)
    unfolding name_fault_in
    name_on slash Client = check_on check.client
    name_on slash Connection = check_on check.connection
    name_on slash Port = check_on check.port
    name_on slash Channel = check_on check.channel
    name_on slash Upgrade = rw t (one_of P ps.zero 13 (every (λ b. not (eqb b 47)) c) slash)

  -- ---- one that is not
  module _ (nz : m.other ≡ 0 → ⊥) (c : List ℕ) (t : m.takes c ≡ false) where
    check_off : (r : Rule) → check_in m r c ≡ m.other
    unfolding check_in chars_in
    check_off r = rw (t, first_some m.other (unless 5 (every identifier_byte (m.seen c))) nz) (first_some m.other (first (within r.least r.most (length c)) (form_of r.form c)) nz)

    name_off : (n : Name) → name_fault_in m n c ≡ m.other
    unfolding name_fault_in
    name_off Client = check_off check.client
    name_off Connection = check_off check.connection
    name_off Port = check_off check.port
    name_off Channel = check_off check.channel
    name_off Upgrade = rw t (first_some m.other (unless 13 (every (λ b. not (eqb b 47)) c)) nz)

  -- ---- both
  module _ (other : OfAName m.other) (fresh : Numbers (λ r. r ≡ m.other → ⊥)) (no_slash : ◌≡◌ {A = ℕ} 13 m.other → ⊥) where
    apart : (n : Name) (c : List ℕ) → Apart (name_fault_in m n c)
    apart n c = go (m.takes c) refl
      where
        far : Numbers Apart
        far =
            record {
              zero = apart_by 0 refl refl refl;
              char = apart_by 5 refl refl refl;
              size = apart_by 6 refl refl refl;
              prefix = apart_by 7 refl refl refl;
              none = apart_by 17 refl refl refl;
              digit = apart_by 18 refl refl refl;
              large = apart_by 19 refl refl refl;
            }

        go : (t : Bool) → m.takes c ≡ t → Apart (name_fault_in m n c)
        go true t = name_on Apart far c t (apart_by 13 refl refl refl) n
        go false t = rw (name_off other.no_zero c t n) (record { kind = other.no_kind; length = other.no_length; room = other.no_room_when })

    not_taken : (n : Name) (c : List ℕ) → (name_fault_in m n c ≡ m.other) ↔ (m.takes c ≡ false)
    not_taken n c = (λ e. go (m.takes c) refl e, λ t. name_off other.no_zero c t n)
      where
        go : (t : Bool) → m.takes c ≡ t → name_fault_in m n c ≡ m.other → t ≡ false
        go true t e = absurd (name_on (λ r. r ≡ m.other → ⊥) fresh c t no_slash n e)
        go false t e = refl

    -- 13 is given of U alone
    module _ (c : List ℕ) (t : m.takes c ≡ true) where
      check-slash : (r : Rule) → check_in m r c ≡ 13 → ⊥
      check-slash r = check_on (λ x. x ≡ 13 → ⊥) (numbers_but 13 refl refl refl refl refl refl refl) c t r

      upgrade_on : name_fault_in m Upgrade c ≡ unless 13 (every (λ b. not (eqb b 47)) c)
      unfolding name_fault_in
      upgrade_on = rw t

      name-slash : (n : Name) → name_fault_in m n c ≡ 13 → (n ≡ Upgrade) × (every (λ b. not (eqb b 47)) c ≡ false)
      unfolding name_fault_in
      name-slash Client e = absurd (check-slash check.client e)
      name-slash Connection e = absurd (check-slash check.connection e)
      name-slash Port e = absurd (check-slash check.port e)
      name-slash Channel e = absurd (check-slash check.channel e)
      name-slash Upgrade e = (refl, go (every (λ b. not (eqb b 47)) c) (sym upgrade_on ∙ e))
        where
          go : (s : Bool) → unless 13 s ≡ 13 → s ≡ false
          go true h = absurd (omega (arith, h))
          go false h = refl

    slash-only : (n : Name) (c : List ℕ) → name_fault_in m n c ≡ 13 → (n ≡ Upgrade) × (m.takes c ≡ true) × (every (λ b. not (eqb b 47)) c ≡ false)
    slash-only n c e = go (m.takes c) refl
      where
        go : (t : Bool) → m.takes c ≡ t → (n ≡ Upgrade) × (m.takes c ≡ true) × (every (λ b. not (eqb b 47)) c ≡ false)
        go true t = let s = name-slash c t n e in (s.0, t, s.1)
        go false t = absurd (no_slash (sym e ∙ name_off other.no_zero c t n))

    checks : Checks m.takes m.other (name_fault_in m)
    checks = record { apart = apart; other_name = other; not_taken = not_taken; slash-only = slash-only; slash-is = λ c t h. upgrade_on c t ∙ rw h }

-- ---- the two modes
pub checks-wide : Checks utf8 21 (name_fault_in wide)
unfolding wide
checks-wide = checks wide (name_by 21 refl refl refl refl) (numbers_but 21 refl refl refl refl refl refl refl) (λ e. omega (arith, e))

in-plain : Checks ascii 2 (name_fault_in plain)
unfolding plain
in-plain = checks plain (name_by 2 refl refl refl refl) (numbers_but 2 refl refl refl refl refl refl refl) (λ e. omega (arith, e))

pub checks-plain : Checks ascii 2 name_fault
checks-plain =
    record {
      apart = λ n c. subst Apart (name-plain n c) (in-plain.apart n c);
      other_name = in-plain.other_name;
      not_taken = λ n c. (λ e. (in-plain.not_taken n c).0 (name-plain n c ∙ e), λ t. sym (name-plain n c) ∙ (in-plain.not_taken n c).1 t);
      slash-only = λ n c e. in-plain.slash-only n c (name-plain n c ∙ e);
      slash-is = λ c t h. sym (name-plain Upgrade c) ∙ in-plain.slash-is c t h;
    }

-- ---- rendering in them
names-by : (ps : List Part) (v : Carried (List ℕ)) → names_fault ps v ≡ names_by name_fault ps v
unfolding names_fault
names-by [] v = refl
names-by (word w ∷ ps) v = names-by ps v
names-by (name n ∷ ps) v = rw (names-by ps v)
names-by (count ∷ ps) v = names-by ps v
names-by (pair ∷ ps) v = names-by ps v

wide-names_by : (ps : List Part) (v : Carried (List ℕ)) → names_fault_in wide ps v ≡ names_by (name_fault_in wide) ps v
unfolding names_fault_in
wide-names_by [] v = refl
wide-names_by (word w ∷ ps) v = wide-names_by ps v
wide-names_by (name n ∷ ps) v = rw (wide-names_by ps v)
wide-names_by (count ∷ ps) v = wide-names_by ps v
wide-names_by (pair ∷ ps) v = wide-names_by ps v

module _ (k : ℕ) (v : Carried (List ℕ)) (out : List ℕ) (x : Written) where
  pub when-plain : x ≡ answer (render_of k v) (length out) → WhenRendered k v out x
  unfolding render_of
  when-plain e = when_rendered ascii 2 name_fault checks-plain k v out x (e ∙ rw names-by)

  pub when-wide : x ≡ answer (render_in wide k v) (length out) → WhenRenderedBy (name_fault_in wide) k v utf8 21 out x
  unfolding render_in
  when-wide e = when_rendered utf8 21 (name_fault_in wide) checks-wide k v out x (e ∙ rw wide-names_by)
