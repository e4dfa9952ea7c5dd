-- Whether an access to a mapped page is permitted: the rules that refuse accesses, each a formula, and their order.
-- SDM 3A, "Determination of Access Rights" and "Protection Keys".
use Rattle.std.specs.Prelude.{ℕ, ◌+◌, ◌*◌, ◌&&◌, ◌||◌, not, Bool, false, Option, Some, None, List, [], ◌∷◌, find, if◌then◌else◌}
use Rattle.std.specs.List.{list_any}
use Rattle.paging_model.specs.AccessKinds.{is_user, is_supervisor, is_implicit, is_write, is_fetch, is_data}
use Rattle.paging_model.specs.BitRanges.{bit}
use Rattle.paging_model.specs.Registers.{wp, smep, smap, pke, pks}
use Rattle.paging_model.specs.declared.registers.Regs.{Regs}
use Rattle.paging_model.specs.declared.entries.Bits.{Bits}
use Rattle.paging_model.specs.declared.access.Access.{Access}
use Rattle.paging_model.specs.declared.access.Rule.{Rule}
use Rattle.paging_model.specs.declared.access.Rule.TheVariants.{User, Smep, Smap, Write, Xd, Key}

-- supervisor data accesses go by SMAP: while it is on, explicit ones while AC is 0, implicit ones always
abbrev pub smap_applies : Regs → Access → Bool
smap_applies regs access = smap regs && (is_implicit access || not regs.ac)

-- writes go by R/W and by WD: the user's always, the supervisor's while WP is 1
abbrev pub wp_applies : Regs → Access → Bool
wp_applies regs access = is_user access || wp regs

-- the register that holds the rights of a page's protection key: PKRU of user pages and PKRS of supervisor pages, where
-- they are enabled
abbrev pub key_register : Regs → Bits → Option ℕ
key_register regs bits =
    if bits.user then (if pke regs then Some regs.pkru else None) else (if pks regs then Some regs.pkrs else None)

-- AD, access disable, of a key
abbrev pub access_disable : Option ℕ → ℕ → Bool
access_disable (Some register) key = bit register (2 * key)
access_disable None key = false

-- WD, write disable, of a key
abbrev pub write_disable : Option ℕ → ℕ → Bool
write_disable (Some register) key = bit register (2 * key + 1)
write_disable None key = false

-- a user access to a supervisor page
abbrev pub user_refuses : Access → Bits → Bool
user_refuses access bits = is_user access && not bits.user

-- a supervisor fetch from a user page
abbrev pub smep_refuses : Regs → Access → Bits → Bool
smep_refuses regs access bits = is_supervisor access && is_fetch access && bits.user && smep regs

-- a supervisor data access to a user page
abbrev pub smap_refuses : Regs → Access → Bits → Bool
smap_refuses regs access bits = is_supervisor access && is_data access && bits.user && smap_applies regs access

-- a write to a page without R/W
abbrev pub write_refuses : Regs → Access → Bits → Bool
write_refuses regs access bits = is_write access && not bits.write && wp_applies regs access

-- a fetch from a page with XD
abbrev pub xd_refuses : Access → Bits → Bool
xd_refuses access bits = is_fetch access && bits.xd

-- a data access against AD of the page's key, or a write against its WD
abbrev pub key_refuses : Regs → Access → Bits → ℕ → Bool
key_refuses regs access bits key =
    is_data access
    && (access_disable (key_register regs bits) key
    || (is_write access && write_disable (key_register regs bits) key && wp_applies regs access))

-- whether a rule refuses the access
abbrev pub refuses : Regs → Access → Bits → ℕ → Rule → Bool
refuses regs access bits key User = user_refuses access bits
refuses regs access bits key Smep = smep_refuses regs access bits
refuses regs access bits key Smap = smap_refuses regs access bits
refuses regs access bits key Write = write_refuses regs access bits
refuses regs access bits key Xd = xd_refuses access bits
refuses regs access bits key Key = key_refuses regs access bits key

-- the rules in their order
abbrev pub rules : List Rule
rules = User ∷ Smep ∷ Smap ∷ Write ∷ Xd ∷ Key ∷ []

-- no rule refuses the access
unfoldable pub is_granted : Regs → Access → Bits → ℕ → Bool
is_granted regs access bits key = not (list_any (refuses regs access bits key) rules)

-- the first rule that refuses the access
unfoldable pub denial_of : Regs → Access → Bits → ℕ → Option Rule
denial_of regs access bits key = find (refuses regs access bits key) rules
