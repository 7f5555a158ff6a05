-- Which form a site of a live plan has at first.
use Rattle.std.specs.Prelude.{◌≡◌, ℕ, Some}
use Rattle.live_text.specs.declared.plan.LiveSite.{LiveSite}
use Rattle.module_image.specs.Held.{first_states}
use Rattle.module_image.specs.Lent.{IsPatchedSite}
use Rattle.module_image.specs.Module.{Module, wants}

-- a patched site begins there, and it wants this form before any update
pub record StartsAsWanted (m : Module) (live : LiveSite) : Type 0 where
  pub number : ℕ
  pub there : IsPatchedSite m.sites live.at number
  pub wanted : wants m (first_states m) number ≡ Some live.start
