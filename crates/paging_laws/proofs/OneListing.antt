-- At most one list is the listing of what each page is mapped to.
use Rattle.std.proofs.Common.{◌≡◌, ℕ, ◌+◌, ◌-◌, ◌%◌, ◌<◌, ◌≤◌, inl, inr, Bool, true, false, Option, Some, None, List, [], ◌∷◌, map, refl, sym, ap, ◌∙◌, subst, arith}
use Rattle.std.specs.Prelude.{nat_le, ◌&&◌}
use Rattle.std.proofs.lemmas.Bool.Decides.{nat_tests}
use Rattle.std.proofs.lemmas.Bool.{cases_lt}
use Rattle.paging_model.specs.LinearAddress.{IsPage}
use Rattle.paging_model.specs.Listings.{Stretch, IsStretch, AreStretches, IsOneWith, AreApart, target_in, IsListing, stretch_of_area, stretch_of_region, AreAreas, AreRegions}
use Rattle.paging_model.specs.Memory.{Memory}
use Rattle.paging_model.specs.Registers.{la57, root_of}
use Rattle.paging_model.specs.Translations.{Target, Protection, raw_target, present_target}
use Rattle.paging_model.specs.declared.registers.Machine.{Machine}
use Rattle.paging_model.specs.declared.registers.Regs.{Regs}
use Rattle.paging_model.specs.declared.registers.Settings.{Settings}
use Rattle.paging_model.specs.declared.spaces.Area.{Area}
use Rattle.paging_model.specs.declared.spaces.Region.{Region}
use Rattle.paging_laws.specs.Unions.{union}

within_both : (first last page : ℕ) → first ≤ page → page ≤ last → (nat_le first page && nat_le page last) ≡ true
within_both first last page h k = grind (arith, nat_tests)

below_first : (first last page : ℕ) → page < first → (nat_le first page && nat_le page last) ≡ false
below_first first last page h = grind (arith, nat_tests)

after_last : (first last page : ℕ) → last < page → (nat_le first page && nat_le page last) ≡ false
after_last first last page h = grind (arith, nat_tests)

module _ {Kind : Type 0} where
  -- what a stretch maps one of its pages to
  abbrev pub target_of : Stretch Kind → ℕ → Target Kind
  target_of stretch page = record { frame = stretch.frame + (page - stretch.first); kind = stretch.kind }

  pub target_in-within : (one : Stretch Kind) (rest : List (Stretch Kind)) (page : ℕ) → one.first ≤ page → page ≤ one.last
      → target_in (one ∷ rest) page ≡ Some (target_of one page)
  target_in-within one rest page from to = rw (within_both one.first one.last page from to) refl

  pub target_in-after : (one : Stretch Kind) (rest : List (Stretch Kind)) (page : ℕ) → one.last < page
      → target_in (one ∷ rest) page ≡ target_in rest page
  target_in-after one rest page after = rw (after_last one.first one.last page after) refl

  target_in-skip : (one : Stretch Kind) (rest : List (Stretch Kind)) (page : ℕ) → page < one.first
      → target_in (one ∷ rest) page ≡ target_in rest page
  target_in-skip one rest page before = rw (below_first one.first one.last page before) refl

  -- a list maps nothing up to the last byte of a stretch that stands before it
  pub target_in-up_to : (five_levels : Bool) (one : Stretch Kind) (rest : List (Stretch Kind)) (page : ℕ)
      → AreStretches five_levels rest → AreApart (one ∷ rest) → page ≤ one.last → target_in rest page ≡ None
  target_in-up_to five_levels one [] page stretches apart up_to = refl
  target_in-up_to five_levels one (two ∷ rest) page stretches apart up_to =
      let before : page < two.first = omega (arith, apart.0) in
      let up : page ≤ two.last = omega (arith, stretches.0.some) in
      target_in-skip two rest page before ∙ target_in-up_to five_levels two rest page stretches.1 apart.2 up

  -- nor does a list map anything before its first byte
  pub target_in-before : (five_levels : Bool) (one : Stretch Kind) (rest : List (Stretch Kind)) (page : ℕ)
      → AreStretches five_levels (one ∷ rest) → AreApart (one ∷ rest) → page < one.first → target_in (one ∷ rest) page ≡ None
  target_in-before five_levels one rest page stretches apart before =
      let up : page ≤ one.last = omega (arith, stretches.0.some) in
      target_in-skip one rest page before ∙ target_in-up_to five_levels one rest page stretches.1 apart up

  -- both lists map each page to the same
  abbrev pub Agree : Bool → List (Stretch Kind) → List (Stretch Kind) → Type 0
  Agree five_levels one other = (page : ℕ) → IsPage five_levels page → target_in one page ≡ target_in other page

  -- the first page of a stretch, and each that follows one of its pages
  first_page : (five_levels : Bool) (stretch : Stretch Kind) → IsStretch five_levels stretch → IsPage five_levels stretch.first
  first_page five_levels stretch is = record {
    below = omega (arith, is.some, is.below);
    aligned = is.begins;
    canonical = is.canonical stretch.first (omega arith) (omega (arith, is.some));
  }

  page_within : (five_levels : Bool) (stretch : Stretch Kind) → IsStretch five_levels stretch → (page : ℕ) → page % 4096 ≡ 0
      → stretch.first ≤ page → page ≤ stretch.last → IsPage five_levels page
  page_within five_levels stretch is page aligned from to = record {
    below = omega (arith, is.below);
    aligned = aligned;
    canonical = is.canonical page from to;
  }

  some_is_not_none : {target : Target Kind} → Some target ≡ None → ⊥
  some_is_not_none same = cc

  -- a list that maps nothing is empty
  nothing_maps : (five_levels : Bool) (one : Stretch Kind) (rest : List (Stretch Kind)) → AreStretches five_levels (one ∷ rest)
      → ((page : ℕ) → IsPage five_levels page → target_in (one ∷ rest) page ≡ None) → ⊥
  nothing_maps five_levels one rest stretches none =
      let maps = target_in-within one rest one.first (omega arith) (omega (arith, stretches.0.some)) in
      some_is_not_none (sym maps ∙ none one.first (first_page five_levels one stretches.0))

  module _ (five_levels : Bool) (one other : Stretch Kind) (rest others : List (Stretch Kind))
      (stretches : AreStretches five_levels (one ∷ rest)) (other_stretches : AreStretches five_levels (other ∷ others))
      (apart : AreApart (one ∷ rest)) (other_apart : AreApart (other ∷ others))
      (agree : Agree five_levels (one ∷ rest) (other ∷ others)) where
    begins_no_earlier : one.first < other.first → ⊥
    begins_no_earlier earlier =
        let maps = target_in-within one rest one.first (omega arith) (omega (arith, stretches.0.some)) in
        let none = target_in-before five_levels other others one.first other_stretches other_apart earlier in
        some_is_not_none (sym maps ∙ (agree one.first (first_page five_levels one stretches.0) ∙ none))

    -- two stretches that begin at one byte have the same first target
    same_target : one.first ≡ other.first → target_of one one.first ≡ target_of other one.first
    same_target begin =
        let maps = target_in-within one rest one.first (omega arith) (omega (arith, stretches.0.some)) in
        let maps' = target_in-within other others one.first (omega arith) (omega (arith, other_stretches.0.some)) in
        let same : Some (target_of one one.first) ≡ Some (target_of other one.first) =
        sym maps ∙ (agree one.first (first_page five_levels one stretches.0) ∙ maps') in
        cc

    same_frame : one.first ≡ other.first → one.frame ≡ other.frame
    same_frame begin = let same = ap (λ (target : Target Kind). target.frame) (same_target begin) in omega arith

    same_kind : one.first ≡ other.first → one.kind ≡ other.kind
    same_kind begin = ap (λ (target : Target Kind). target.kind) (same_target begin)

  -- the page after a stretch, where another that begins with it goes on
  next_page : (five_levels : Bool) (one other : Stretch Kind) → IsStretch five_levels one → IsStretch five_levels other
      → one.first ≡ other.first → one.last < other.last → IsPage five_levels (one.last + 1)
  next_page five_levels one other is_one is_other begin earlier =
      page_within five_levels other is_other (one.last + 1) (omega (arith, is_one.ends)) (omega (arith, is_one.some)) (omega arith)

  goes_on_in : (one other two : Stretch Kind) → one.first ≡ other.first → one.frame ≡ other.frame → one.kind ≡ other.kind
      → two.first ≡ one.last + 1 → target_of two two.first ≡ target_of other two.first → one.first ≤ one.last → IsOneWith one two
  goes_on_in one other two begin frame kind touches same some =
      let frames = ap (λ (target : Target Kind). target.frame) same in
      let kinds = ap (λ (target : Target Kind). target.kind) same in
      record { touches = touches; goes_on = omega arith; same = kinds ∙ sym kind }

  -- a stretch that ends earlier would go on in the next of its list
  ends_no_earlier : (five_levels : Bool) (one other : Stretch Kind) (rest others : List (Stretch Kind))
      → AreStretches five_levels (one ∷ rest) → AreStretches five_levels (other ∷ others) → AreApart (one ∷ rest)
      → Agree five_levels (one ∷ rest) (other ∷ others)
      → one.first ≡ other.first → one.frame ≡ other.frame → one.kind ≡ other.kind → one.last < other.last → ⊥
  ends_no_earlier five_levels one other [] others stretches others_stretches apart agree begin frame kind earlier =
      let page = next_page five_levels one other stretches.0 others_stretches.0 begin earlier in
      let none = target_in-after one [] (one.last + 1) (omega arith) in
      let maps = target_in-within other others (one.last + 1) (omega (arith, stretches.0.some)) (omega arith) in
      some_is_not_none (sym maps ∙ (sym (agree (one.last + 1) page) ∙ none))
  ends_no_earlier five_levels one other (two ∷ rest) others stretches others_stretches apart agree begin frame kind earlier =
      let page = next_page five_levels one other stretches.0 others_stretches.0 begin earlier in
      let goes : target_in (two ∷ rest) (one.last + 1) ≡ Some (target_of other (one.last + 1)) =
      sym (target_in-after one (two ∷ rest) (one.last + 1) (omega arith))
      ∙ (agree (one.last + 1) page ∙ target_in-within other others (one.last + 1) (omega (arith, stretches.0.some)) (omega arith)) in
      elim (cases_lt (one.last + 1) two.first) [
        | inl before ↦ some_is_not_none (sym goes ∙ target_in-before five_levels two rest (one.last + 1) stretches.1 apart.2 before)
        | inr from ↦
            let touches : two.first ≡ one.last + 1 = omega (arith, apart.0) in
            let maps : target_in (two ∷ rest) two.first ≡ Some (target_of two two.first) =
            target_in-within two rest two.first (omega arith) (omega (arith, stretches.1.0.some)) in
            let goes' : target_in (two ∷ rest) two.first ≡ Some (target_of other two.first) =
            subst (λ (page : ℕ). target_in (two ∷ rest) page ≡ Some (target_of other page)) (sym touches) goes in
            let both : Some (target_of two two.first) ≡ Some (target_of other two.first) = sym maps ∙ goes' in
            let same : target_of two two.first ≡ target_of other two.first = cc in
            apart.1 (goes_on_in one other two begin frame kind touches same (omega (arith, stretches.0.some)))
      ]

  stretch_of : ℕ → ℕ → ℕ → Kind → Stretch Kind
  stretch_of first last frame kind = record { first = first; last = last; frame = frame; kind = kind }

  same_stretch : (first first' last last' frame frame' : ℕ) (kind kind' : Kind) → first ≡ first' → last ≡ last' → frame ≡ frame'
      → kind ≡ kind' → stretch_of first last frame kind ≡ stretch_of first' last' frame' kind'
  same_stretch first first' last last' frame frame' kind kind' firsts lasts frames kinds = cc

  same_head : (five_levels : Bool) (one other : Stretch Kind) (rest others : List (Stretch Kind))
      → AreStretches five_levels (one ∷ rest) → AreStretches five_levels (other ∷ others) → AreApart (one ∷ rest) → AreApart (other ∷ others)
      → Agree five_levels (one ∷ rest) (other ∷ others) → one ≡ other
  unfolding stretch_of
  same_head five_levels one other rest others stretches others_stretches apart others_apart agree =
      let back : Agree five_levels (other ∷ others) (one ∷ rest) = λ page is. sym (agree page is) in
      let no_earlier = begins_no_earlier five_levels one other rest others stretches others_stretches apart others_apart agree in
      let no_later = begins_no_earlier five_levels other one others rest others_stretches stretches others_apart apart back in
      let begin : one.first ≡ other.first = omega arith in
      let frame = same_frame five_levels one other rest others stretches others_stretches apart others_apart agree begin in
      let kind = same_kind five_levels one other rest others stretches others_stretches apart others_apart agree begin in
      let no_shorter = ends_no_earlier five_levels one other rest others stretches others_stretches apart agree begin frame kind in
      let no_longer = ends_no_earlier five_levels other one others rest others_stretches stretches others_apart back (sym begin) (sym frame) (sym kind) in
      let end : one.last ≡ other.last = omega arith in
      same_stretch one.first other.first one.last other.last one.frame other.frame one.kind other.kind begin end frame kind

  -- after one first stretch two lists agree too
  agree_after : (five_levels : Bool) (one : Stretch Kind) (rest others : List (Stretch Kind))
      → AreStretches five_levels (one ∷ rest) → AreStretches five_levels (one ∷ others) → AreApart (one ∷ rest) → AreApart (one ∷ others)
      → Agree five_levels (one ∷ rest) (one ∷ others) → Agree five_levels rest others
  agree_after five_levels one rest others stretches others_stretches apart others_apart agree page is =
      elim (cases_lt one.last page) [
        | inl after ↦ sym (target_in-after one rest page after) ∙ (agree page is ∙ target_in-after one others page after)
        | inr up_to ↦
            target_in-up_to five_levels one rest page stretches.1 apart up_to
            ∙ sym (target_in-up_to five_levels one others page others_stretches.1 others_apart up_to)
      ]

  apart_rest : (one : Stretch Kind) (rest : List (Stretch Kind)) → AreApart (one ∷ rest) → AreApart rest
  apart_rest one [] apart = tt
  apart_rest one (two ∷ rest) apart = apart.2

  -- lists of stretches apart that map each page to the same are one
  pub same_list : (five_levels : Bool) (one other : List (Stretch Kind)) → AreStretches five_levels one → AreStretches five_levels other
      → AreApart one → AreApart other → Agree five_levels one other → one ≡ other
  same_list five_levels [] [] stretches others_stretches apart others_apart agree = refl
  same_list five_levels [] (other ∷ others) stretches others_stretches apart others_apart agree =
      absurd (nothing_maps five_levels other others others_stretches (λ page is. sym (agree page is)))
  same_list five_levels (one ∷ rest) [] stretches others_stretches apart others_apart agree =
      absurd (nothing_maps five_levels one rest stretches agree)
  same_list five_levels (one ∷ rest) (other ∷ others) stretches others_stretches apart others_apart agree =
      let head : one ≡ other = same_head five_levels one other rest others stretches others_stretches apart others_apart agree in
      let stretches' : AreStretches five_levels (one ∷ others) = subst (λ (it : Stretch Kind). AreStretches five_levels (it ∷ others)) (sym head) others_stretches in
      let apart' : AreApart (one ∷ others) = subst (λ (it : Stretch Kind). AreApart (it ∷ others)) (sym head) others_apart in
      let agree' : Agree five_levels (one ∷ rest) (one ∷ others) = subst (λ (it : Stretch Kind). Agree five_levels (one ∷ rest) (it ∷ others)) (sym head) agree in
      let after = agree_after five_levels one rest others stretches stretches' apart apart' agree' in
      let tail : rest ≡ others =
      same_list five_levels rest others stretches.1 others_stretches.1 (apart_rest one rest apart) (apart_rest other others others_apart) after in
      cc

  -- one list at most is the listing of a target
  pub listing_is_one : (five_levels : Bool) (target : ℕ → Option (Target Kind)) (one other : List (Stretch Kind))
      → IsListing five_levels target one → IsListing five_levels target other → one ≡ other
  listing_is_one five_levels target one other is_one is_other =
      same_list five_levels one other is_one.stretches is_other.stretches is_one.apart is_other.apart
      (λ page is. is_one.pages page is ∙ sym (is_other.pages page is))

  -- a list is the listing of one target at most
  pub target_is_one : (five_levels : Bool) (target other : ℕ → Option (Target Kind)) (list : List (Stretch Kind))
      → IsListing five_levels target list → IsListing five_levels other list → (page : ℕ) → IsPage five_levels page → target page ≡ other page
  target_is_one five_levels target other list is_one is_other page is = sym (is_one.pages page is) ∙ is_other.pages page is

module _ {Kind : Type 0} where
  target_made : ℕ → Kind → Target Kind
  target_made frame kind = record { frame = frame; kind = kind }

  same_target_made : (frame frame' : ℕ) (kind kind' : Kind) → frame ≡ frame' → kind ≡ kind' → target_made frame kind ≡ target_made frame' kind'
  same_target_made frame frame' kind kind' frames kinds = cc

  target_of-union : (one other : Stretch Kind) (page : ℕ) → IsOneWith one other → one.first ≤ one.last → one.last < page
      → target_of other page ≡ target_of (union one other) page
  unfolding target_made
  target_of-union one other page makes_one some after =
      same_target_made (other.frame + (page - other.first)) (one.frame + (page - one.first)) other.kind one.kind
      (omega (arith, makes_one.touches, makes_one.goes_on)) makes_one.same

  -- two stretches that make one map each page as that one does
  pub target_in-union : (five_levels : Bool) (one other : Stretch Kind) (rest : List (Stretch Kind)) (page : ℕ)
      → IsStretch five_levels one → IsStretch five_levels other → IsOneWith one other
      → target_in (one ∷ other ∷ rest) page ≡ target_in (union one other ∷ rest) page
  target_in-union five_levels one other rest page is_one is_other makes_one =
      elim (cases_lt page one.first) [
        | inl before ↦
            target_in-skip one (other ∷ rest) page before
            ∙ (target_in-skip other rest page (omega (arith, makes_one.touches, is_one.some)) ∙ sym (target_in-skip (union one other) rest page before))
        | inr from ↦ elim (cases_lt one.last page) [
          | inr up_to ↦
              target_in-within one (other ∷ rest) page from up_to
              ∙ sym (target_in-within (union one other) rest page from (omega (arith, makes_one.touches, is_other.some)))
          | inl after ↦ target_in-after one (other ∷ rest) page after ∙ elim (cases_lt other.last page) [
            | inl far ↦ target_in-after other rest page far ∙ sym (target_in-after (union one other) rest page far)
            | inr near ↦
                target_in-within other rest page (omega (arith, makes_one.touches)) near
                ∙ (ap Some (target_of-union one other page makes_one (omega (arith, is_one.some)) after) ∙ sym (target_in-within (union one other) rest page from near))
          ]
        ]
      ]

-- lists are equal where a function that keeps things apart makes one list of them
map_is_one : {Thing Made : Type 0} (make : Thing → Made) → ((one other : Thing) → make one ≡ make other → one ≡ other)
    → (one other : List Thing) → map make one ≡ map make other → one ≡ other
map_is_one make apart [] [] same = refl
map_is_one make apart [] (other ∷ others) same = absurd cc
map_is_one make apart (one ∷ rest) [] same = absurd cc
map_is_one make apart (one ∷ rest) (other ∷ others) same =
    let made : make one ≡ make other = cc in
    let rests : map make rest ≡ map make others = cc in
    let head = apart one other made in
    let tail = map_is_one make apart rest others rests in
    cc

area_of : ℕ → ℕ → ℕ → ℕ → Area
area_of first last frame rights = record { first = first; last = last; frame = frame; rights = rights }

same_area : (first first' last last' frame frame' rights rights' : ℕ) → first ≡ first' → last ≡ last' → frame ≡ frame' → rights ≡ rights'
    → area_of first last frame rights ≡ area_of first' last' frame' rights'
same_area first first' last last' frame frame' rights rights' firsts lasts frames sets = cc

pub stretch_of_area-one : (one other : Area) → stretch_of_area one ≡ stretch_of_area other → one ≡ other
unfolding area_of
stretch_of_area-one one other same =
    same_area one.first other.first one.last other.last one.frame other.frame one.rights other.rights
    (ap (λ (stretch : Stretch ℕ). stretch.first) same) (ap (λ (stretch : Stretch ℕ). stretch.last) same)
    (ap (λ (stretch : Stretch ℕ). stretch.frame) same) (ap (λ (stretch : Stretch ℕ). stretch.kind) same)

region_of : ℕ → ℕ → ℕ → Protection → Region
region_of first last frame kind = record { first = first; last = last; frame = frame; bits = kind.bits; key = kind.key }

same_region : (first first' last last' frame frame' : ℕ) (kind kind' : Protection) → first ≡ first' → last ≡ last' → frame ≡ frame' → kind ≡ kind'
    → region_of first last frame kind ≡ region_of first' last' frame' kind'
same_region first first' last last' frame frame' kind kind' firsts lasts frames kinds = cc

pub stretch_of_region-one : (one other : Region) → stretch_of_region one ≡ stretch_of_region other → one ≡ other
unfolding region_of
stretch_of_region-one one other same =
    same_region one.first other.first one.last other.last one.frame other.frame
    (record { bits = one.bits; key = one.key }) (record { bits = other.bits; key = other.key })
    (ap (λ (stretch : Stretch Protection). stretch.first) same) (ap (λ (stretch : Stretch Protection). stretch.last) same)
    (ap (λ (stretch : Stretch Protection). stretch.frame) same) (ap (λ (stretch : Stretch Protection). stretch.kind) same)

pub areas_are_one : (memory : Memory) (machine : Machine) (regs : Regs) (one other : List Area)
    → AreAreas memory machine regs one → AreAreas memory machine regs other → one ≡ other
areas_are_one memory machine regs one other are_one are_other =
    map_is_one stretch_of_area stretch_of_area-one one other
    (listing_is_one (la57 regs) (present_target memory machine regs (root_of regs machine)) (map stretch_of_area one) (map stretch_of_area other) are_one are_other)

pub regions_are_one : (memory : Memory) (settings : Settings) (root : ℕ) (one other : List Region)
    → AreRegions memory settings root one → AreRegions memory settings root other → one ≡ other
regions_are_one memory settings root one other are_one are_other =
    map_is_one stretch_of_region stretch_of_region-one one other
    (listing_is_one settings.la57 (raw_target memory settings root) (map stretch_of_region one) (map stretch_of_region other) are_one are_other)
