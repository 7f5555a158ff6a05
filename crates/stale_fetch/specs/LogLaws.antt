-- What a text that keeps all writes stands for.
use Rattle.std.proofs.Common.{◌<◌, ◌↔◌, ℕ, length, sym, ap, subst}
use Rattle.stale_fetch.specs.Past.{Past, held_in}
use Rattle.stale_fetch.specs.Text.{Covers, HasRoom, Agrees}
use Rattle.stale_fetch.specs.Log.{LogState, log_shape, log_has_room, IsLogOf}

-- it agrees with what it stands for
pub log_agrees : (log : LogState) (p : Past) → IsLogOf log p → Agrees (log_shape log) (λ at. held_in log.past at) p
log_agrees log p h = record {
  base = ap (λ (q : Past). q.base) (sym h.is);
  size = ap (λ (q : Past). length q.text) (sym h.is);
  cpus = ap (λ (q : Past). length q.marks) (sym h.is);
  marks = h.marks;
  bytes = λ at. ap (λ (q : Past). held_in q at) h.is;
}

-- there is room while fewer writes were made
pub log_room : (log : LogState) (p : Past) (at byte : ℕ) → IsLogOf log p → Covers (log_shape log) at → (log_has_room log at byte ↔ HasRoom (log_shape log).limit p at byte)
log_room log p at byte h inside =
    (subst (λ (q : Past). length q.writes < log.room) h.is, subst (λ (q : Past). length q.writes < log.room) (sym h.is))
