-- Two texts that read as the same have the same path and the same mark.
-- Assumes nothing.
use Rattle.std.specs.Prelude.{◌≡◌, Bool}
use Rattle.std.proofs.Math.Path.{ap}
use Rattle.path.specs.declared.Path.{Path}
use Rattle.path.specs.declared.ReadPath.{ReadPath}
use Rattle.path.specs.Reading.{Read}

pub read-same : (p q : Path) (e f : Bool) → Read p e ≡ Read q f → (p ≡ q) × (e ≡ f)
read-same p q e f h =
    let z : ◌≡◌ {A = ReadPath} (record { path = p; exact = e }) (record { path = q; exact = f }) = cc in
    (ap (λ (x : ReadPath). x.path) z, ap (λ (x : ReadPath). x.exact) z)
