-- `name::no_slash` meets its contract.
use Rattle.std.specs.Prelude.{◌≡◌, refl, ℕ, Bool, true, false, not, ◌&&◌, ◌||◌, List, [], ◌∷◌, eqb}
use Rattle.std.specs.List.{list_any}
use Rattle.std.proofs.Common.{ap, ◌∙◌}
use Rattle.text.specs.Part.{every}
use Rattle.path.proofs.name.no_slash.Goals as goal

-- none is a slash where each is something else
none-every : (s : List ℕ) → not (list_any (λ b. eqb b 47) s) ≡ every (λ b. not (eqb b 47)) s
unfolding every
none-every [] = refl
none-every (b ∷ s) = go (eqb b 47) (none-every s)
  where
    go : (v : Bool) → not (list_any (λ b. eqb b 47) s) ≡ every (λ b. not (eqb b 47)) s → not (v || list_any (λ b. eqb b 47) s) ≡ (not v && every (λ b. not (eqb b 47)) s)
    go true h = refl
    go false h = h

pub returns : goal.returns
returns c = ap not c.contains.ensures.value ∙ none-every c.args.s.now
