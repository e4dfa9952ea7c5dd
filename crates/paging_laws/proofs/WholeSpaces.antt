-- What is found of a whole space is all of its uses and leaves, each once; so their numbers decide whether it is too large.
use Rattle.std.proofs.Common.{ℕ, ◌<◌, ◌≤◌, ◌⊎◌, ◌↔◌, inl, inr, ◌++◌, length, refl, sym, subst, arith}
use Rattle.paging_model.specs.Counting.{AreAll}
use Rattle.paging_model.specs.Memory.{Memory}
use Rattle.paging_model.specs.Entries.{root_bits}
use Rattle.paging_model.specs.TableUses.{at_root, IsUse, IsLeaf, use_limit, leaf_limit, IsTooLarge, IsWithinLimits}
use Rattle.paging_model.specs.Walking.{top_level}
use Rattle.paging_model.specs.declared.registers.Settings.{Settings}
use Rattle.paging_model.specs.declared.spaces.TableUse.{TableUse}
use Rattle.paging_laws.specs.SpaceParts.{upper_prefix, uses_in, leaves_in, uses_of, leaves_of}
use Rattle.paging_laws.proofs.Membership.{all-append}
use Rattle.paging_laws.proofs.Pigeonholes.{some_are_no_more}
use Rattle.paging_laws.proofs.Reaching.{use_is_one}
use Rattle.paging_laws.proofs.FoundUses.{all-uses_in, all-leaves_in}
use Rattle.paging_laws.proofs.SpaceHalves.{lower-half, upper-half, in_half, halves-apart}

module _ (memory : Memory) (settings : Settings) (root : ℕ) where
  abbrev root_use : TableUse
  root_use = record { level = top_level settings; prefix = 0; frame = root; bits = root_bits }

  root-is_use : IsUse memory settings root root_use
  root-is_use = record { serves = inl (refl, refl); reached = at_root }

  -- all uses but that of the top table
  abbrev IsLowerUse : TableUse → Type 0
  IsLowerUse table = IsUse memory settings root table × (table.level < top_level settings)

  all-lower_uses : AreAll IsLowerUse
      (uses_in memory settings (top_level settings) root 0 root_bits 0 256
      ++ uses_in memory settings (top_level settings) root (upper_prefix settings) root_bits 256 256)
  all-lower_uses =
      all-append (uses_in memory settings (top_level settings) root 0 root_bits 0 256)
      (uses_in memory settings (top_level settings) root (upper_prefix settings) root_bits 256 256)
      (all-uses_in memory settings root (top_level settings) root 0 root_bits 0 256 (lower-half memory settings root))
      (all-uses_in memory settings root (top_level settings) root (upper_prefix settings) root_bits 256 256
      (upper-half memory settings root))
      (λ table lower. elim lower.0.serves [
        | inl top ↦ absurd (omega (arith, top.0, lower.1))
        | inr serves ↦ elim (in_half settings table.prefix serves.2.below serves.2.canonical) [
          | inl low ↦ inl (record { is_use = lower.0; lower = lower.1; from = low.0; before = low.1 })
          | inr high ↦ inr (record { is_use = lower.0; lower = lower.1; from = high.0; before = high.1 })
        ]
      ])
      (λ table low. (low.is_use, low.lower)) (λ table high. (high.is_use, high.lower))
      (λ table low high. halves-apart settings table.prefix low.before high.from)

  pub all-uses : AreAll (IsUse memory settings root) (uses_of memory settings root)
  all-uses = record {
    some = record {
      have = λ table is. elim is [
        | inl same ↦ subst (λ (it : TableUse). IsUse memory settings root it) (sym same) root-is_use
        | inr lower ↦ (all-lower_uses.some.have table lower).0
      ];
      distinct = (
        λ is. let lower : IsLowerUse root_use = all-lower_uses.some.have root_use is in omega (arith, lower.1),
        all-lower_uses.some.distinct,
      );
    };
    all = λ table is. elim is.serves [
      | inl top ↦ inl (use_is_one table root_use is root-is_use top.0 top.1)
      | inr serves ↦ inr (all-lower_uses.all table (is, serves.1))
    ];
  }

  pub all-leaves : AreAll (IsLeaf memory settings root) (leaves_of memory settings root)
  all-leaves =
      all-append (leaves_in memory settings (top_level settings) root 0 root_bits 0 256)
      (leaves_in memory settings (top_level settings) root (upper_prefix settings) root_bits 256 256)
      (all-leaves_in memory settings root (top_level settings) root 0 root_bits 0 256 (lower-half memory settings root))
      (all-leaves_in memory settings root (top_level settings) root (upper_prefix settings) root_bits 256 256
      (upper-half memory settings root))
      (λ leaf is. elim (in_half settings leaf.prefix is.prefix.below is.prefix.canonical) [
        | inl low ↦ inl (record { is_leaf = is; from = low.0; before = low.1 })
        | inr high ↦ inr (record { is_leaf = is; from = high.0; before = high.1 })
      ])
      (λ leaf low. low.is_leaf) (λ leaf high. high.is_leaf)
      (λ leaf low high. halves-apart settings leaf.prefix low.before high.from)

  -- so their numbers decide whether the space is too large
  pub too_large-by_counts : IsTooLarge memory settings root
      ↔ ((use_limit < length (uses_of memory settings root)) ⊎ (leaf_limit < length (leaves_of memory settings root)))
  too_large-by_counts = (
    λ large. elim large [
      | inl more ↦ inl (omega (arith, more.many, some_are_no_more more.things (uses_of memory settings root) more.some all-uses))
      | inr more ↦ inr (omega (arith, more.many, some_are_no_more more.things (leaves_of memory settings root) more.some all-leaves))
    ],
    λ more. elim more [
      | inl uses ↦ inl (record { things = uses_of memory settings root; some = all-uses.some; many = uses })
      | inr leaves ↦ inr (record { things = leaves_of memory settings root; some = all-leaves.some; many = leaves })
    ],
  )

  pub within_limits-by_counts : IsWithinLimits memory settings root
      ↔ ((length (uses_of memory settings root) ≤ use_limit) × (length (leaves_of memory settings root) ≤ leaf_limit))
  within_limits-by_counts = (
    λ within. (
      omega (arith, within.uses.many, some_are_no_more (uses_of memory settings root) within.uses.things all-uses.some within.uses.all),
      omega (arith, within.leaves.many, some_are_no_more (leaves_of memory settings root) within.leaves.things all-leaves.some within.leaves.all),
    ),
    λ few. record {
      uses = record { things = uses_of memory settings root; all = all-uses; many = few.0 };
      leaves = record { things = leaves_of memory settings root; all = all-leaves; many = few.1 };
    },
  )
