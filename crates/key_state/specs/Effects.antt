-- What a command makes of keys and sites, as the program works it out before anything is changed.
use Rattle.std.specs.Prelude.{◌<◌, ◌≤◌, ℕ, Bool, List, length, replicate, slice_index, slice_set, Option, Some, None, Result, Ok, ⊤}
use Rattle.key_state.specs.declared.count.CountRefused.{CountRefused}
use Rattle.key_state.specs.declared.effect.Effect.{Effect}
use Rattle.key_state.specs.declared.effect.Effect.TheVariants.{Key, Site, Sites}
use Rattle.key_state.specs.After.{dec_after, disable_after, enable_after, greatest_count, inc_after}
use Rattle.module_parts.specs.declared.command.Command.{Command}
use Rattle.module_parts.specs.declared.command.Command.TheVariants.{Inc, Dec, Enable, Disable, Target, Trace, TraceAll}
use Rattle.module_parts.specs.declared.site.SiteKind.{SiteKind}
use Rattle.module_parts.specs.declared.site.SiteKind.TheVariants.{Jump, Call, Tail, Trace as TraceSite}
use Rattle.module_image.specs.Module.{States}

-- the count of a static key after a command on it
abbrev pub counted : Command → ℕ → Result ℕ CountRefused
counted (Inc key) count = inc_after count
counted (Dec key) count = dec_after count
counted (Enable key) count = enable_after count
counted (Disable key) count = disable_after count
counted (Target key func) count = Ok count
counted (Trace site on) count = Ok count
counted (TraceAll on) count = Ok count

-- the number of a site's key
abbrev pub key_of : SiteKind → Option ℕ
key_of (Jump target key likely) = Some key
key_of (Call key) = Some key
key_of (Tail key) = Some key
key_of TraceSite = None

-- what keys hold, and which sites are traced, after an effect
abbrev pub keys_after : List ℕ → Effect → List ℕ
keys_after keys (Key key state) = slice_set keys key state
keys_after keys (Site site on) = keys
keys_after keys (Sites on) = keys

abbrev pub traced_after : List Bool → Effect → List Bool
traced_after traced (Key key state) = traced
traced_after traced (Site site on) = slice_set traced site on
traced_after traced (Sites on) = replicate (length traced) on

abbrev pub states_after : States → Effect → States
states_after states effect = record { keys = keys_after states.keys effect; traced = traced_after states.traced effect }

-- the key and the site that it names are there
abbrev pub HasKey : List ℕ → Effect → Type 0
HasKey keys (Key key state) = key < length keys
HasKey keys (Site site on) = ⊤
HasKey keys (Sites on) = ⊤

abbrev pub HasSite : List Bool → Effect → Type 0
HasSite traced (Key key state) = ⊤
HasSite traced (Site site on) = site < length traced
HasSite traced (Sites on) = ⊤

pub record IsWithin (states : States) (effect : Effect) : Type 0 where
  pub key : HasKey states.keys effect
  pub site : HasSite states.traced effect

-- a key is there and holds a count
pub record HoldsCount (states : States) (key : ℕ) : Type 0 where
  pub below : key < length states.keys
  pub fits : slice_index states.keys key ≤ greatest_count

-- what a command names is there
abbrev pub CanDo : States → Command → Type 0
CanDo states (Inc key) = HoldsCount states key
CanDo states (Dec key) = HoldsCount states key
CanDo states (Enable key) = HoldsCount states key
CanDo states (Disable key) = HoldsCount states key
CanDo states (Target key func) = key < length states.keys
CanDo states (Trace site on) = site < length states.traced
CanDo states (TraceAll on) = ⊤
