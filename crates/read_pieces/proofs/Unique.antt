-- The contract of each public function, as the source has it, leaves one result.
-- Assumes nothing.
use Rattle.std.specs.Prelude.{◌≡◌, ℕ, List}
use Rattle.std.specs.Borrow.{Bor}
use Rattle.std.proofs.Props.{props}
use mathlib.Core.Path.{sym, ap, ◌∙◌}
use mathlib.Core.HLevel.{is_prop→PathP}
use Rattle.text.specs.Outcome.{One, OnePart}
use Rattle.text.specs.OutcomeLaws.{one-part}
use Rattle.path.specs.Cut.{cut_of}
use Rattle.read_pieces.specs.declared.cutter.CutText.{CutText}
use Rattle.read_pieces.proofs.cutter.cut_text.Reads as cut-text
use Rattle.read_pieces.proofs.cutter.CutText.new.Reads as new
use Rattle.read_pieces.proofs.cutter.CutText.place.Reads as place
use Rattle.read_pieces.proofs.cutter.CutText.component.Reads as component
use Rattle.read_pieces.proofs.cutter.CutText.is_word.Reads as is_word
use Rattle.read_pieces.proofs.read_client.Reads as read-client
use Rattle.read_pieces.proofs.read_connection.Reads as read-connection
use Rattle.read_pieces.proofs.read_port.Reads as read-port
use Rattle.read_pieces.proofs.read_height.Reads as read-height
use Rattle.read_pieces.proofs.first_dash.Reads as first-dash
use Rattle.read_pieces.proofs.read_consensus.Reads as read-consensus
use Rattle.read_pieces.proofs.read_ends.Reads as read-ends
use Rattle.read_pieces.proofs.read_packet.Reads as read-packet

pub one-cut_text : One cut-text.Post
one-cut_text κs a r₁ r₂ s₁ s₂ p q = p ∙ sym q

-- a text is cut in one way
same-cut : (x y : CutText) → x.text ≡ y.text → x ≡ y
same-cut x y e =
    let c : x.cut ≡ y.cut = x.is_cut ∙ ap (λ (t : Bor (List ℕ)). cut_of t.now) e ∙ sym y.is_cut in
    λ i. record { text = e i; cut = c i; is_cut = is_prop→PathP (λ j. c j ≡ cut_of (e j).now) (λ j. hlevel props) x.is_cut y.is_cut i }

pub one-new : One new.Post
one-new κs a r₁ r₂ s₁ s₂ p q = same-cut r₁ r₂ (p ∙ sym q)

pub one-place : One place.Post
one-place κs a r₁ r₂ s₁ s₂ p q = p ∙ sym q

-- its bytes, and where it points
pub one-component : OnePart component.Post
one-component κs a r₁ r₂ s₁ s₂ p q = one-part p q

pub one-is_word : One is_word.Post
one-is_word κs a r₁ r₂ s₁ s₂ p q = p ∙ sym q

pub one-read_client : One read-client.Post
one-read_client κs a r₁ r₂ s₁ s₂ p q = p ∙ sym q

pub one-read_connection : One read-connection.Post
one-read_connection κs a r₁ r₂ s₁ s₂ p q = p ∙ sym q

pub one-read_port : One read-port.Post
one-read_port κs a r₁ r₂ s₁ s₂ p q = p ∙ sym q

pub one-read_height : One read-height.Post
one-read_height κs a r₁ r₂ s₁ s₂ p q = p ∙ sym q

pub one-first_dash : One first-dash.Post
one-first_dash κs a r₁ r₂ s₁ s₂ p q = p ∙ sym q

pub one-read_consensus : One read-consensus.Post
one-read_consensus κs a r₁ r₂ s₁ s₂ p q = p ∙ sym q

pub one-read_ends : One read-ends.Post
one-read_ends κs a r₁ r₂ s₁ s₂ p q = p ∙ sym q

pub one-read_packet : One read-packet.Post
one-read_packet κs a r₁ r₂ s₁ s₂ p q = p ∙ sym q
