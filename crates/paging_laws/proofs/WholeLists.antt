-- The lists of the rules and of the kinds of access have all of them.
use Rattle.std.proofs.Common.{inl, inr, refl}
use Rattle.paging_model.specs.AccessRights.{rules}
use Rattle.paging_model.specs.AccessSets.{accesses}
use Rattle.paging_model.specs.Counting.{IsIn}
use Rattle.paging_model.specs.declared.access.Access.{Access}
use Rattle.paging_model.specs.declared.access.Access.TheVariants.{Ur, Uw, Ux, Sr, Sw, Sx, Ir, Iw}
use Rattle.paging_model.specs.declared.access.Rule.{Rule}
use Rattle.paging_model.specs.declared.access.Rule.TheVariants.{User, Smep, Smap, Write, Xd, Key}

pub IsIn-rules : (rule : Rule) → IsIn rule rules
IsIn-rules User = inl refl
IsIn-rules Smep = inr (inl refl)
IsIn-rules Smap = inr (inr (inl refl))
IsIn-rules Write = inr (inr (inr (inl refl)))
IsIn-rules Xd = inr (inr (inr (inr (inl refl))))
IsIn-rules Key = inr (inr (inr (inr (inr (inl refl)))))

pub IsIn-accesses : (access : Access) → IsIn access accesses
IsIn-accesses Ur = inl refl
IsIn-accesses Uw = inr (inl refl)
IsIn-accesses Ux = inr (inr (inl refl))
IsIn-accesses Sr = inr (inr (inr (inl refl)))
IsIn-accesses Sw = inr (inr (inr (inr (inl refl))))
IsIn-accesses Sx = inr (inr (inr (inr (inr (inl refl)))))
IsIn-accesses Ir = inr (inr (inr (inr (inr (inr (inl refl))))))
IsIn-accesses Iw = inr (inr (inr (inr (inr (inr (inr (inl refl)))))))
