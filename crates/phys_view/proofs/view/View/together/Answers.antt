use Rattle.std.proofs.Common.{sym, ◌≡◌, ◌+◌, arith, refl}
use Rattle.phys_view.proofs.Known.{not_together, not_together-here}
use Rattle.phys_view.proofs.Shown.{written-together, written-stand}
use Rattle.phys_view.proofs.view.View.together.Goals as goal

pub returns-in-Some-first_unknown-clause-found : goal.returns-in-Some-first_unknown-clause-found
returns-in-Some-first_unknown-clause-found g c =
    (λ found. absurd (grind arith), λ together. absurd (not_together _ _ _ _ c.in-Some-first_unknown.ensures.value together))

pub returns-in-None-first_unknown-clause-found : goal.returns-in-None-first_unknown-clause-found
returns-in-None-first_unknown-clause-found g c =
    (λ found. written-together _ _ _ c.in-Some.bytes.now c.in-Some.ensures.value c.in-None-first_unknown.ensures.value, λ together. refl)

pub returns-in-None-first_unknown-clause-value : goal.returns-in-None-first_unknown-clause-value
returns-in-None-first_unknown-clause-value g c =
    written-stand _ _ _ c.in-Some.bytes.now c.in-Some.ensures.value c.in-None-first_unknown.ensures.value (omega (arith, c.in-Some.ensures.len, c.requires.within)) c.requires.within

pub returns-in-Unknown-clause-found : goal.returns-in-Unknown-clause-found
returns-in-Unknown-clause-found g c =
    let same : c.args.at + 0 ≡ c.args.at = omega arith in
    let here = rw same at (c.in-Unknown.ensures.each 0 c.in-Unknown.ensures.some) in
    rw (sym c.self.view_is) (λ found. absurd (grind arith), λ together. absurd (not_together-here _ _ _ c.requires.some here together))
