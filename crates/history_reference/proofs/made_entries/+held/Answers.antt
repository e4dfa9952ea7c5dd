use Rattle.std.proofs.Common.{◌≡◌, Bool, Some, sym, ap, ◌∙◌, subst}
use Rattle.std.specs.Prelude.{not, filter}
use Rattle.std.proofs.lemmas.Result.{IfOk-weaker}
use Rattle.history_model.specs.History.{regs}
use Rattle.history_model.specs.CachedTranslations.{cache_key}
use Rattle.history_model.specs.Invalidations.{kills}
use Rattle.history_reference.specs.CacheEntries.{HeldEntry}
use Rattle.history_reference.specs.HeldLists.{AreHeld, AreStillHeld}
use Rattle.history_reference.specs.Moments.{history_of}
use Rattle.history_reference.proofs.HeldSteps.{kept_after, none_made, none_made_elsewhere, none_made_unknown}
use Rattle.history_reference.proofs.made_entries.+held.Goals as goal

pub held_entries-returns-in_default : goal.held_entries-returns-in_default
held_entries-returns-in_default t c =
    none_made (history_of c.args.moment.now) c.args.cpu c.args.pcid c.args.address c.in_ok-list.list.items
    (λ level held. none_made_unknown (history_of c.args.moment.now) c.args.cpu c.args.pcid level c.args.address held (sym c.regs.ensures ∙ c.in_default.is))
    c.in_ok-list.ensures

pub held_entries-returns-then-pcid : goal.held_entries-returns-then-pcid
held_entries-returns-then-pcid t c =
    none_made (history_of c.args.moment.now) c.args.cpu c.args.pcid c.args.address c.in_ok-list.list.items
    (λ level held. none_made_elsewhere (history_of c.args.moment.now) c.args.cpu c.args.pcid level c.args.address held c.in-Some.known
    (sym c.regs.ensures ∙ c.in-Some.is) (λ same. c.if-pcid.true (c.pcid.ensures.value ∙ same)))
    c.in_ok-list.ensures

pub kept_entries-returns : goal.kept_entries-returns
kept_entries-returns t c =
    let is_known : regs (history_of c.in-After.before.value) c.args.cpu ≡ Some c.in-Some.known =
    ap (λ moment. regs (history_of moment) c.args.cpu) (sym c.deref.ensures) ∙ (sym c.regs.ensures ∙ c.in-Some.is) in
    let held_before : AreHeld (history_of c.in-After.before.value) c.args.cpu c.args.pcid c.args.address c.in_ok-earlier.earlier.items =
    subst (λ moment. AreHeld (history_of moment) c.args.cpu c.args.pcid c.args.address c.in_ok-earlier.earlier.items) c.deref-2.ensures c.in_ok-earlier.ensures in
    let test : HeldEntry → Bool =
    λ entry. not (kills c.in-After.event c.args.cpu c.in-Some.known (cache_key c.args.pcid entry.level c.args.address entry.held)) in
    IfOk-weaker c.spared_entries.result _ _
    (λ list is_filtered.
    subst (λ moment. AreStillHeld (history_of moment) c.args.cpu c.args.pcid c.args.address list.items) (sym c.in-After.is)
    (kept_after (history_of c.in-After.before.value) c.in-After.event c.args.cpu c.args.pcid c.args.address c.in-Some.known
    c.in_ok-earlier.earlier.items list.items is_known held_before (is_filtered ∙ ap (filter test) c.deref-3.ensures.value)))
    c.spared_entries.ensures
