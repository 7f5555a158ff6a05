-- What keys hold after a command, or why it is refused.
use Rattle.std.specs.Prelude.{◌==◌, ℕ, ◌+◌, ◌-◌, Bool, if◌then◌else◌, length, replicate, slice_index, slice_set, Result, Ok, Err}
use Rattle.key_state.specs.declared.count.CountRefused.{CountRefused}
use Rattle.key_state.specs.declared.count.CountRefused.TheVariants.{Zero, Greatest, Above}
use Rattle.module_parts.specs.declared.command.Command.{Command}
use Rattle.module_parts.specs.declared.command.Command.TheVariants.{Inc, Dec, Enable, Disable, Target, Trace, TraceAll}
use Rattle.module_image.specs.Module.{States}

-- the greatest count of a static key: a signed number of 32 bits (Linux: `atomic_t`)
abbrev pub greatest_count : ℕ
greatest_count = 2147483647

-- one thing at the count 0, another at 1, and another at every count above
abbrev pub by_count : {A : Type 0} → A → A → (ℕ → A) → ℕ → A
by_count none one more count = if count == 0 then none else if count == 1 then one else more count

-- the table of counts, a line each: at 0, at 1, above 1
abbrev pub inc_after : ℕ → Result ℕ CountRefused
inc_after = by_count (Ok 1) (Ok 2) (λ n. if n == greatest_count then Err Greatest else Ok (n + 1))

abbrev pub dec_after : ℕ → Result ℕ CountRefused
dec_after = by_count (Err Zero) (Ok 0) (λ n. Ok (n - 1))

abbrev pub enable_after : ℕ → Result ℕ CountRefused
enable_after = by_count (Ok 1) (Ok 1) (λ n. Err (Above n))

abbrev pub disable_after : ℕ → Result ℕ CountRefused
disable_after = by_count (Ok 0) (Ok 0) (λ n. Err (Above n))

-- the states with another state of a key, a count or a function
abbrev pub with_key : States → ℕ → ℕ → States
with_key states key state = record states { keys = slice_set states.keys key state }

-- the states with another count of a key, where it isn't refused
abbrev pub with_count : States → ℕ → Result ℕ CountRefused → Result States CountRefused
with_count states key (Ok count) = Ok (with_key states key count)
with_count states key (Err why) = Err why

-- the states with one site traced or not, and with all of them
abbrev pub with_trace : States → ℕ → Bool → States
with_trace states site on = record states { traced = slice_set states.traced site on }

abbrev pub with_all_traced : States → Bool → States
with_all_traced states on = record states { traced = replicate (length states.traced) on }

-- what keys and sites hold after a command, a line each, or why it is refused
abbrev pub after : States → Command → Result States CountRefused
after states (Inc key) = with_count states key (inc_after (slice_index states.keys key))
after states (Dec key) = with_count states key (dec_after (slice_index states.keys key))
after states (Enable key) = with_count states key (enable_after (slice_index states.keys key))
after states (Disable key) = with_count states key (disable_after (slice_index states.keys key))
after states (Target key func) = Ok (with_key states key func)
after states (Trace site on) = Ok (with_trace states site on)
after states (TraceAll on) = Ok (with_all_traced states on)

-- the count at which a command is refused
abbrev pub refused_count : CountRefused → ℕ
refused_count Zero = 0
refused_count Greatest = greatest_count
refused_count (Above count) = count
