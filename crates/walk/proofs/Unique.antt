-- The contract of each public function, as the source has it, leaves one outcome: the result, and the content of the buffer that is lent.
-- Assumes nothing.
use mathlib.Core.Path.{sym, ◌∙◌}
use Rattle.text.specs.Outcome.{One, OneWith}
use Rattle.text.specs.OutcomeLaws.{agree}
use Rattle.walk.proofs.walk_view.Reads as walk-view
use Rattle.walk.proofs.walk_path.Reads as walk-path
use Rattle.walk.proofs.write_walk.Reads as write-walk

pub one-walk_view : One walk-view.Post
one-walk_view κs a r₁ r₂ s₁ s₂ p q = p ∙ sym q

pub one-walk_path : One walk-path.Post
one-walk_path κs a r₁ r₂ s₁ s₂ p q = p ∙ sym q

pub one-write_walk : OneWith write-walk.Post (λ κs s. s.1.0.now)
one-write_walk κs a r₁ r₂ s₁ s₂ p q = agree p q
