-- What the fields of an accepted module mean.
use Rattle.std.specs.Prelude.{◌≡◌, ◌<◌, ◌≤◌, ◌+◌, ◌^◌, length, None}
use Rattle.module_image.specs.declared.image.Image.TheInside.{Inside}
use Rattle.module_parts.specs.declared.key.KeyClass.TheVariants.{Jump as JumpKey, Call as CallKey}
use Rattle.module_image.specs.First.{HasNone}
use Rattle.module_image.specs.Layout.{IsSwept}
use Rattle.module_image.specs.Lent.{KeysAreKnown, NamesAreKnown}
use Rattle.module_image.specs.Module.{Module, IsAccepted, layout_of, tracer_of}
use Rattle.module_image.specs.Refusals.{IsTrace}
use Rattle.module_image.specs.Text.{AreInside, AreApart}

abbrev pub module_of : Inside → Module
module_of i = record {
  base = i.base;
  text = i.text.items;
  units = i.units.items;
  sites = i.sites.items;
  keys = i.keys.items;
  functions = i.functions;
  jump_keys = i.jump_keys;
  call_keys = i.call_keys;
}

-- what holds of every accepted module
pub record IsSound (i : Inside) : Type 0 where
  pub is : IsAccepted (module_of i)
  pub below : i.base + length i.text.items < 2 ^ 64
  pub some : 1 ≤ length i.text.items
  pub short : length i.text.items ≤ 65536
  pub inside : AreInside i.base (length i.text.items) i.sites.items
  pub apart : AreApart i.sites.items
  pub swept : IsSwept (layout_of (module_of i)) i.units.items
  pub few : length i.sites.items ≤ 1024
  pub tracer : i.tracer ≡ tracer_of (module_of i)
  pub few_keys : length i.keys.items ≤ 1024
  pub known : KeysAreKnown i.sites.items i.keys.items
  pub no_tracer : tracer_of (module_of i) ≡ None → HasNone IsTrace i.sites.items
  pub jump_names : NamesAreKnown i.keys.items JumpKey i.jump_keys
  pub call_names : NamesAreKnown i.keys.items CallKey i.call_keys
