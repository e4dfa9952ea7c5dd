-- What the refusals of cores and logs have in common. (Our own format; docs/FORMATS.md.)
use Rattle.std.specs.Prelude.{ℕ, List, ◌++◌, codes}
use Rattle.std.specs.Fmt.{decimal}
use Rattle.paging_model.specs.declared.registers.RegRule.{RegRule}
use Rattle.paging_model.specs.declared.registers.RegRule.TheVariants.{PagingOff, NotLong, NoPae, La57Changed, PcidNotZero, KeepBitWithoutPcid, Cr3Reserved}
use Rattle.rights_report.specs.Characters.{line_end}

-- what is refused, and why
abbrev pub refusal_line : List ℕ → List ℕ → List ℕ
refusal_line what why = what ++ (codes " refused: " ++ (why ++ line_end))

-- a core, and why it is refused
abbrev pub core_refusal : List ℕ → List ℕ
core_refusal why = refusal_line (codes "core") why

-- a line of the log, by its number from 1, and why it is refused
abbrev pub line_refusal : ℕ → List ℕ → List ℕ
line_refusal number why = refusal_line (codes "line " ++ decimal number) why

-- the name of a rule for registers
abbrev pub register_rule_text : RegRule → List ℕ
register_rule_text PagingOff = codes "paging-off"
register_rule_text NotLong = codes "not-long"
register_rule_text NoPae = codes "no-pae"
register_rule_text La57Changed = codes "la57-changed"
register_rule_text PcidNotZero = codes "pcid-not-zero"
register_rule_text KeepBitWithoutPcid = codes "keep-bit-without-pcid"
register_rule_text Cr3Reserved = codes "cr3-reserved"
