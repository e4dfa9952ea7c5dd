-- What may be held is what was made at a moment and spared since.
use Rattle.std.proofs.Common.{ℕ, inl, inr}
use Rattle.history_model.specs.History.{History}
use Rattle.history_model.specs.CachedTranslations.{Held, MayHold, kept, at_root, below, cache_key}
use Rattle.history_laws.specs.Making.{IsMade, Spares, here, later, HeldSince}

pub since_held : {p c x : ℕ} {history : History} {level : ℕ} {held : Held} → MayHold history p c level x held → HeldSince history p c level x held
since_held {p = p} {c = c} {x = x} (kept {before = before} happened {level = level} {held = held} earlier is_known spares) =
    let since : HeldSince before p c level x held = since_held earlier in
    record { moment = since.moment; was_made = since.was_made; spared = later happened since.spared is_known spares }
since_held (at_root {history = history} {known = known} is_known current top is_made) =
    record { moment = history; was_made = inl (record { known = known; is_known = is_known; current = current; top = top; is_made = is_made }); spared = here }
since_held (below {history = history} {known = known} above is_known current above_held references is_made) =
    record {
      moment = history;
      was_made = inr (record { known = known; is_known = is_known; current = current; above = above; above_held = above_held; references = references; is_made = is_made });
      spared = here;
    }

-- what is made at a moment may be held then
pub held_when_made : {p c x : ℕ} {moment : History} {level : ℕ} {held : Held} → IsMade moment p c level x held → MayHold moment p c level x held
held_when_made (inl m) = at_root m.is_known m.current m.top m.is_made
held_when_made (inr m) = below m.above m.is_known m.current m.above_held m.references m.is_made

-- what may be held at a moment may be held for as long as it is spared
pub held_while_spared : {p c x level : ℕ} {held : Held} {moment history : History}
    → MayHold moment p c level x held → Spares moment p (cache_key c level x held) history → MayHold history p c level x held
held_while_spared m here = m
held_while_spared m (later happened spared is_known spares) = kept happened (held_while_spared m spared) is_known spares

pub held_since : {p c x : ℕ} {history : History} {level : ℕ} {held : Held} → HeldSince history p c level x held → MayHold history p c level x held
held_since since = held_while_spared (held_when_made since.was_made) since.spared
