-- Lists of bytes in which each stands once.
use Rattle.std.specs.Prelude.{◌≡◌, ◌<◌, ◌==◌, ℕ, true, List}
use Rattle.std.specs.List.{IsDistinct}
use Rattle.stale_fetch.specs.Gathered.{has}

pub record IsByteSet (values : List ℕ) : Type 0 where
  pub distinct : IsDistinct (λ x y. x == y) values
  pub below : (value : ℕ) → has values value ≡ true → value < 256
