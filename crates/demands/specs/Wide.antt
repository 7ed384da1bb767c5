-- Request L8, over the wide calls of the C interface: on ASCII texts each is the plain call of its name; an identifier is accepted by its characters;
-- a wide path that is rendered reads back; exact is that the key is the text; each refusal of reading, rendering and keys exactly when.
-- Assumes nothing.
use Rattle.std.specs.Prelude.{ℕ, ◌≤◌, ◌≡◌, refl, ◌↔◌, Bool, true, List, [], ◌++◌, length, take, Some}
use Rattle.std.proofs.Common.{sym, ap, ◌∙◌}
use Rattle.text.specs.Bytes.{bytes}
use Rattle.text.specs.declared.Fault.{Fault}
use Rattle.text.specs.declared.Written.{Written}
use Rattle.text.specs.Number.{decimal}
use Rattle.text.specs.Part.{every, ascii}
use Rattle.text.specs.Put.{Wanted, text, answer, left}
use Rattle.identifiers.specs.Check.{chars_of, length_of, prefix_length_of, named_index_fault, Rule, check_of, fault_of, client, client_type, connection, port, channel}
use Rattle.identifiers.specs.Owned.{new_client}
use Rattle.path.specs.declared.Path.{Path}
use Rattle.path.specs.Reading.{Read}
use Rattle.path.specs.declared.name.Name.{Name}
use Rattle.path.specs.Kinds.{carried, Kind, kinds}
use Rattle.path.specs.Parents.{text_of, consensus_parent, packets_path}
use Rattle.path.specs.Read.{name_fault, fits_kind, parts_of, render_path}
use Rattle.path.specs.Reads.{Has}
use Rattle.path.specs.Read as paths
use Rattle.path.specs.Valid.{only}
use Rattle.wide.specs.Mode.{wide}
use Rattle.wide.specs.Check.{check_in, fault_in}
use Rattle.wide.specs.Read.{read_in, key_in}
use Rattle.wide.specs.Render.{name_fault_in}
use Rattle.letters.specs.Character.{characters, utf8}
use Rattle.letters.specs.Trimmed.{trim_front, trim_back}
use Rattle.letters.specs.Narrow.{narrow}
use Rattle.wide.specs.AsciiLaws as ascii-laws
use Rattle.wide.proofs.AsciiLaws as ascii-proofs
use Rattle.demands.specs.PathCalls.{ReadCall, KeyCall, RenderCall, reading, keying, rendering}
use Rattle.demands.specs.Told.{told}
use Rattle.demands.specs.Written.{Done, Back}
use Rattle.demands.specs.WideCalls.{WideReadCall, WideKeyCall, WideRenderCall, wide_reading, wide_keying, wide_rendering}
use Rattle.demands.specs.WideWritten.{Fine, WideValid, WideReadsAs, fits_kind_wide, WhenWideRead}
use Rattle.demands.specs.WideRendered.{WhenWideRendered, WhenWideKeyed}
use Rattle.demands.specs.WideAlikeLaws as alikes
use Rattle.demands.specs.WideLaws as laws
use Rattle.demands.specs.WideBackLaws as back
use Rattle.demands.specs.WideTrimLaws as trims
use Rattle.demands.specs.WideCallLaws as more
use Rattle.demands.specs.ModeLaws as modes
use Rattle.demands.specs.WideRenderedLaws as refusals
use Rattle.hostpath.proofs.hp_wide_validate_identifier_chars.Reads as hp-wide-validate-identifier-chars
use Rattle.hostpath.proofs.hp_wide_validate_identifier_length.Reads as hp-wide-validate-identifier-length
use Rattle.hostpath.proofs.hp_wide_validate_prefix_length.Reads as hp-wide-validate-prefix-length
use Rattle.hostpath.proofs.hp_wide_validate_named_u64_index.Reads as hp-wide-validate-named-u64-index
use Rattle.hostpath.proofs.hp_wide_validate_client_type.Reads as hp-wide-validate-client-type
use Rattle.hostpath.proofs.hp_wide_validate_client_identifier.Reads as hp-wide-validate-client-identifier
use Rattle.hostpath.proofs.hp_wide_validate_connection_identifier.Reads as hp-wide-validate-connection-identifier
use Rattle.hostpath.proofs.hp_wide_validate_port_identifier.Reads as hp-wide-validate-port-identifier
use Rattle.hostpath.proofs.hp_wide_validate_channel_identifier.Reads as hp-wide-validate-channel-identifier
use Rattle.hostpath.proofs.hp_wide_client_id_new.Reads as hp-wide-client-id-new
use Rattle.hostpath.proofs.hp_wide_consensus_state_parent.Reads as hp-wide-consensus-state-parent
use Rattle.hostpath.proofs.hp_wide_commitments_path.Reads as hp-wide-commitments-path
use Rattle.hostpath.proofs.hp_wide_acks_path.Reads as hp-wide-acks-path
use Rattle.hostpath.proofs.hp_wide_receipts_path.Reads as hp-wide-receipts-path

-- ---- "That wide equals plain on ASCII input": the checks
pub chars_ascii : (κs : _) (a : _) (r : _) (s : _) → hp-wide-validate-identifier-chars.Post κs a r s → ascii a.0.now ≡ true → r ≡ chars_of a.0.now
chars_ascii κs a r s p low = p ∙ ascii-laws.chars_ascii a.0.now low

pub length_ascii : (κs : _) (a : _) (r : _) (s : _) → hp-wide-validate-identifier-length.Post κs a r s → ascii a.0.now ≡ true → r ≡ length_of a.0.now a.1.0 a.1.1.0
length_ascii κs a r s p low = p ∙ ascii-laws.length_ascii a.0.now low _ _

pub prefix_ascii : (κs : _) (a : _) (r : _) (s : _) → hp-wide-validate-prefix-length.Post κs a r s → ascii a.0.now ≡ true → r ≡ prefix_length_of a.0.now a.1.0 a.1.1.0
prefix_ascii κs a r s p low = p ∙ ascii-laws.prefix_ascii a.0.now low _ _

pub client_type_ascii : (κs : _) (a : _) (r : _) (s : _) → hp-wide-validate-client-type.Post κs a r s → ascii a.0.now ≡ true → r ≡ check_of client_type a.0.now
client_type_ascii κs a r s p low = p ∙ ascii-laws.check-ascii a.0.now low client_type

pub client_ascii : (κs : _) (a : _) (r : _) (s : _) → hp-wide-validate-client-identifier.Post κs a r s → ascii a.0.now ≡ true → r ≡ check_of client a.0.now
client_ascii κs a r s p low = p ∙ ascii-laws.check-ascii a.0.now low client

pub connection_ascii : (κs : _) (a : _) (r : _) (s : _) → hp-wide-validate-connection-identifier.Post κs a r s → ascii a.0.now ≡ true → r ≡ fault_of connection a.0.now
connection_ascii κs a r s p low = p ∙ ascii-proofs.fault-ascii a.0.now low connection

pub port_ascii : (κs : _) (a : _) (r : _) (s : _) → hp-wide-validate-port-identifier.Post κs a r s → ascii a.0.now ≡ true → r ≡ check_of port a.0.now
port_ascii κs a r s p low = p ∙ ascii-laws.check-ascii a.0.now low port

pub channel_ascii : (κs : _) (a : _) (r : _) (s : _) → hp-wide-validate-channel-identifier.Post κs a r s → ascii a.0.now ≡ true → r ≡ fault_of channel a.0.now
channel_ascii κs a r s p low = p ∙ ascii-proofs.fault-ascii a.0.now low channel

pub named_ascii : (κs : _) (a : _) (r : _) (s : _) → hp-wide-validate-named-u64-index.Post κs a r s → ascii a.0.now ≡ true → ascii a.1.0.now ≡ true → r ≡ named_index_fault a.0.now a.1.0.now
named_ascii κs a r s p low name = p ∙ ascii-laws.named_ascii a.0.now low a.1.0.now name

-- calls that write: what the plain call wants is wanted
same_wanted : (x y : Wanted) → x ≡ y → (r : Written) (out o : List ℕ) → (r ≡ answer x (length out)) × (o ≡ left x out) → (r ≡ answer y (length out)) × (o ≡ left y out)
same_wanted x y e r out o p = rw e at p

pub new_ascii : (κs : _) (a : _) (r : _) (s : _) → hp-wide-client-id-new.Post κs a r s → ascii a.0.now ≡ true
    → (r ≡ answer (new_client a.0.now a.1.0) (length a.1.1.0.now)) × (s.1.1.0.now ≡ left (new_client a.0.now a.1.0) a.1.1.0.now)
new_ascii κs a r s p low = same_wanted _ _ (ascii-proofs.new_ascii a.0.now low a.1.0) r _ _ p

-- ---- "wide client types are trimmed of the same release's white space": a new identifier is the characters of the client type without what is white
-- at its ends, `-` and the counter
pub new_trims : (κs : _) (a : _) (r : _) (s : _) → hp-wide-client-id-new.Post κs a r s → r.refusal ≡ 0
    → (u : List ℕ) × (characters u ≡ trim_back (trim_front (characters a.0.now))) × Done (u ++ (bytes "-" ++ decimal a.1.0)) r s.1.1.0.now
new_trims κs a r s p z = trims.new_trims a.0.now a.1.0 _ r _ p.0 p.1 z

pub parent_ascii : (κs : _) (a : _) (r : _) (s : _) → hp-wide-consensus-state-parent.Post κs a r s → ascii a.0.now ≡ true
    → (r ≡ answer (text_of consensus_parent (carried a.0.now [] 0 0)) (length a.1.0.now)) × (s.1.0.now ≡ left (text_of consensus_parent (carried a.0.now [] 0 0)) a.1.0.now)
unfolding ascii every
parent_ascii κs a r s p low = same_wanted _ _ (ascii-proofs.text-ascii (carried a.0.now [] 0 0) low refl consensus_parent) r _ _ p

pub commitments_ascii : (κs : _) (a : _) (r : _) (s : _) → hp-wide-commitments-path.Post κs a r s → ascii a.0.now ≡ true → ascii a.1.0.now ≡ true
    → (r ≡ answer (text_of (packets_path (bytes "commitments")) (carried a.0.now a.1.0.now 0 0)) (length a.1.1.0.now)) × (s.1.1.0.now ≡ left (text_of (packets_path (bytes "commitments")) (carried a.0.now a.1.0.now 0 0)) a.1.1.0.now)
commitments_ascii κs a r s p low low₂ = same_wanted _ _ (ascii-proofs.text-ascii (carried a.0.now a.1.0.now 0 0) low low₂ (packets_path (bytes "commitments"))) r _ _ p

pub acks_ascii : (κs : _) (a : _) (r : _) (s : _) → hp-wide-acks-path.Post κs a r s → ascii a.0.now ≡ true → ascii a.1.0.now ≡ true
    → (r ≡ answer (text_of (packets_path (bytes "acks")) (carried a.0.now a.1.0.now 0 0)) (length a.1.1.0.now)) × (s.1.1.0.now ≡ left (text_of (packets_path (bytes "acks")) (carried a.0.now a.1.0.now 0 0)) a.1.1.0.now)
acks_ascii κs a r s p low low₂ = same_wanted _ _ (ascii-proofs.text-ascii (carried a.0.now a.1.0.now 0 0) low low₂ (packets_path (bytes "acks"))) r _ _ p

pub receipts_ascii : (κs : _) (a : _) (r : _) (s : _) → hp-wide-receipts-path.Post κs a r s → ascii a.0.now ≡ true → ascii a.1.0.now ≡ true
    → (r ≡ answer (text_of (packets_path (bytes "receipts")) (carried a.0.now a.1.0.now 0 0)) (length a.1.1.0.now)) × (s.1.1.0.now ≡ left (text_of (packets_path (bytes "receipts")) (carried a.0.now a.1.0.now 0 0)) a.1.1.0.now)
receipts_ascii κs a r s p low low₂ = same_wanted _ _ (ascii-proofs.text-ascii (carried a.0.now a.1.0.now 0 0) low low₂ (packets_path (bytes "receipts"))) r _ _ p

-- reading, keys and rendering: the same answer and the same bytes as the plain call
pub read_same : (t out : List ℕ) (f g : Fault) (out₁ out₂ : List ℕ) → WideReadCall t out f out₁ → ReadCall t out g out₂ → ascii t ≡ true → (f ≡ g) × (out₁ ≡ out₂)
read_same t out f g out₁ out₂ c d low =
    let p = wide_reading c in
    let q = reading d in
    (p.0 ∙ ascii-laws.fault-read-ascii t low (length out) ∙ sym q.0, p.1 ∙ ap (λ (x : Wanted). left x out) (ascii-laws.bytes-ascii t low) ∙ sym q.1)

pub key_same : (t out : List ℕ) (x y : Written) (out₁ out₂ : List ℕ) → WideKeyCall t out x out₁ → KeyCall t out y out₂ → ascii t ≡ true → (x ≡ y) × (out₁ ≡ out₂)
key_same t out x y out₁ out₂ c d low =
    let p = same_wanted _ _ (ascii-laws.key-ascii t low) x out out₁ (wide_keying c) in
    let q = keying d in
    (p.0 ∙ sym q.0, p.1 ∙ sym q.1)

pub render_same : (kind : ℕ) (one two : List ℕ) (a b : ℕ) (out : List ℕ) (x y : Written) (out₁ out₂ : List ℕ) → WideRenderCall kind one two a b out x out₁ → RenderCall kind one two a b out y out₂
    → ascii one ≡ true → ascii two ≡ true → (x ≡ y) × (out₁ ≡ out₂)
render_same kind one two a b out x y out₁ out₂ c d low low₂ =
    let p = same_wanted _ _ (ascii-proofs.render-ascii (carried one two a b) low low₂ kind) x out out₁ (wide_rendering c) in
    let q = rendering d in
    (p.0 ∙ sym q.0, p.1 ∙ sym q.1)

-- ---- "a character is allowed where it is one of .. or `is_alphanumeric` allows it": each check accepts exactly such texts, with length and form
accepts : (r : Rule) (s : List ℕ) (n : ℕ) → n ≡ check_in wide r s → (n ≡ 0) ↔ Fine r s
accepts r s n e = (λ h. (laws.accepts r s).0 (sym e ∙ h), λ f. e ∙ (laws.accepts r s).1 f)

pub client_type_accepts : (κs : _) (a : _) (r : _) (s : _) → hp-wide-validate-client-type.Post κs a r s → (r ≡ 0) ↔ Fine client_type a.0.now
client_type_accepts κs a r s p = accepts client_type a.0.now r p

pub client_accepts : (κs : _) (a : _) (r : _) (s : _) → hp-wide-validate-client-identifier.Post κs a r s → (r ≡ 0) ↔ Fine client a.0.now
client_accepts κs a r s p = accepts client a.0.now r p

pub port_accepts : (κs : _) (a : _) (r : _) (s : _) → hp-wide-validate-port-identifier.Post κs a r s → (r ≡ 0) ↔ Fine port a.0.now
port_accepts κs a r s p = accepts port a.0.now r p

pub connection_accepts : (κs : _) (a : _) (r : _) (s : _) → hp-wide-validate-connection-identifier.Post κs a r s → (r.refusal ≡ 0) ↔ Fine connection a.0.now
unfolding fault_in
connection_accepts κs a r s p = accepts connection a.0.now r.refusal (ap (λ (f : Fault). f.refusal) p)

pub channel_accepts : (κs : _) (a : _) (r : _) (s : _) → hp-wide-validate-channel-identifier.Post κs a r s → (r.refusal ≡ 0) ↔ Fine channel a.0.now
unfolding fault_in
channel_accepts κs a r s p = accepts channel a.0.now r.refusal (ap (λ (f : Fault). f.refusal) p)

-- ---- rendering a wide path of at most 4,096 bytes and reading it gives that path back
module _ (kind : ℕ) (one two : List ℕ) (a b : ℕ) (valid : WideValid kind (carried one two a b)) where
  abbrev pub rendered : List ℕ
  rendered = paths.render (parts_of kind) (carried one two a b)

  pub renders : (out : List ℕ) (x : Written) (out₁ : List ℕ) → WideRenderCall kind one two a b out x out₁ → length rendered ≤ length out → Done rendered x out₁
  renders out x out₁ call room = let e = wide_rendering call in more.renders kind (carried one two a b) valid out x out₁ e.0 e.1 room

  pub reads_as : WideReadsAs rendered kind (only (parts_of kind) (carried one two a b))
  reads_as = back.wide_back kind (carried one two a b) valid

  -- 0, and 26 bytes that say that kind, those identifiers of the text itself and those numbers, exact
  pub reads_back : (out : List ℕ) (f : Fault) (out₁ : List ℕ) → WideReadCall rendered out f out₁ → 26 ≤ length out → (f ≡ record { refusal = 0; place = 0 }) × Back rendered (told (take 26 out₁)) kind (only (parts_of kind) (carried one two a b))
  reads_back out f out₁ call room = let e = wide_reading call in more.reads_back rendered kind (only (parts_of kind) (carried one two a b)) reads_as out f out₁ e.0 e.1 room

-- ---- what the reader finds in the picture it finds in the text itself: a kind fits the picture exactly where the text's own components are its words,
-- numbers and accepted identifiers
pub fits_itself : (t : List ℕ) → utf8 t ≡ true → (e : Kind) → Has kinds e → fits_kind e (narrow t) ≡ fits_kind_wide e t
fits_itself t u e m = alikes.fits_itself t u m

-- an identifier has the refusal that its picture has
pub name_picture : (n : Name) (c : List ℕ) → utf8 c ≡ true → name_fault_in wide n c ≡ name_fault n (narrow c)
name_picture = alikes.name_picture

-- ---- a reading is exact exactly where the key is the text
module _ (t : List ℕ) (p : Path) (e : Bool) (h : read_in wide t ≡ Some (Read p e)) where
  pub key_is : key_in wide t ≡ text (render_path t p)
  key_is = more.key_is t p e h

  pub keys : (out : List ℕ) (x : Written) (out₁ : List ℕ) → WideKeyCall t out x out₁ → length (render_path t p) ≤ length out → Done (render_path t p) x out₁
  keys out x out₁ call room = let q = wide_keying call in more.keys t p e h out x out₁ q.0 q.1 room

  pub exact_key : (e ≡ true) ↔ (render_path t p ≡ t)
  exact_key = more.exact_key t p e h

-- ---- when a reading gives 1, 21, 3, 17, 18, 19 and 4
pub when_wide_read : (t out : List ℕ) (f : Fault) (out₁ : List ℕ) → WideReadCall t out f out₁ → WhenWideRead t out f
when_wide_read t out f out₁ call = laws.when-wide t out f (wide_reading call).0

-- ---- when rendering gives 14, an identifier's refusal, 13, 1 and 4, and when a key gives 1, 21, 3, 17, 18, 19 and 4
pub when_wide_rendered : (kind : ℕ) (one two : List ℕ) (a b : ℕ) (out : List ℕ) (x : Written) (out₁ : List ℕ) → WideRenderCall kind one two a b out x out₁
    → WhenWideRendered kind (carried one two a b) out x
when_wide_rendered kind one two a b out x out₁ call = modes.when-wide kind (carried one two a b) out x (wide_rendering call).0

pub when_wide_keyed : (t out : List ℕ) (x : Written) (out₁ : List ℕ) → WideKeyCall t out x out₁ → WhenWideKeyed t out x
when_wide_keyed t out x out₁ call = refusals.when_wide_keyed t out x (wide_keying call).0
