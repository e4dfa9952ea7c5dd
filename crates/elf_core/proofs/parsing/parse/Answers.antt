use Rattle.std.proofs.Common.{sym, subst, ◌∙◌, arith}
use Rattle.std.proofs.lemmas.Result.{err_from_is_err_and}
use Rattle.elf_core.specs.Cores.{IsRefusalOf}
use Rattle.elf_core.specs.FileHeader.{e_phnum}
use Rattle.elf_core.proofs.Refusals.{headers_end, headers_go_on, headers_refused, headers_of_core}
use Rattle.elf_core.proofs.Consistency.{core_is_consistent}
use Rattle.elf_core.proofs.parsing.parse.Goals as goal

pub returns-in_err-add_header-clause-refused : goal.returns-in_err-add_header-clause-refused
returns-in_err-add_header-clause-refused c =
    let returned = err_from_is_err_and c.from_residual-in_err-add_header.result c.from_residual-in_err-add_header.ensures.1 in
    let fault = c.in_err-add_header.field-0.0 in
    let refused = headers_refused c.args.bytes.now c.headers.index (e_phnum c.args.bytes.now) c.headers.core fault (omega arith) c.in_err-add_header.ensures.refused in
    rw (returned.1, returned.2) (subst (λ read. IsRefusalOf read fault) (c.headers.invariant ∙ sym (headers_of_core c.args.bytes.now (sym c.in_ok-check_file_header.ensures.value))) refused)

pub headers-preserved : goal.headers-preserved
headers-preserved c = sym (headers_go_on c.args.bytes.now c.headers.index (e_phnum c.args.bytes.now) c.headers.core c.add_header.new.core (omega arith) c.in_ok-add_header.ensures.ok) ∙ c.headers.invariant

pub returns-clause-ok : goal.returns-clause-ok
returns-clause-ok c = rw c.index.ensures (headers_of_core c.args.bytes.now (sym c.in_ok-check_file_header.ensures.value) ∙ sym c.headers.invariant ∙ headers_end c.args.bytes.now c.headers.index (e_phnum c.args.bytes.now) c.headers.core (omega arith))

pub returns-clause-consistent : goal.returns-clause-consistent
returns-clause-consistent c = core_is_consistent c.args.bytes.now _ (returns-clause-ok c)
