-- Examples that pin lines, numbers and events: their values were worked out by hand.
use Rattle.std.specs.Prelude.{◌≡◌, [], ◌∷◌, ◌++◌, Some, None, Ok, Err, true, false, codes}
use Rattle.paging_model.specs.Registers.{machine_of}
use Rattle.paging_model.specs.declared.access.Access.TheVariants as access
use Rattle.paging_model.specs.declared.registers.RegChange.TheVariants as change
use Rattle.history_model.specs.declared.events.Event.TheVariants as event
use Rattle.edit_log.specs.Log.{lines_of, whole_lines, rest_of, words_of}
use Rattle.edit_log.specs.Numbers.{number_of}
use Rattle.edit_log.specs.LogLine.{event_of}
use Rattle.edit_log.specs.declared.line_forms.LineFault.TheVariants.{Syntax}

pub record OfLines : Type 0 where
  pub last_without_end : lines_of (codes "a" ++ 10 ∷ 10 ∷ codes "bc") ≡ codes "a" ∷ [] ∷ codes "bc" ∷ []
  pub last_with_end : lines_of (codes "a" ++ 10 ∷ []) ≡ codes "a" ∷ []
  pub whole : whole_lines (codes "a" ++ 10 ∷ 10 ∷ codes "bc") ≡ codes "a" ∷ [] ∷ []
  pub rest : rest_of (codes "a" ++ 10 ∷ 10 ∷ codes "bc") ≡ codes "bc"
  pub no_rest : rest_of (codes "a" ++ 10 ∷ []) ≡ []
  pub rest_alone : rest_of (codes "ab") ≡ codes "ab"
  pub two_spaces : words_of (codes "a  b") ≡ codes "a" ∷ [] ∷ codes "b" ∷ []

pub record OfNumbers : Type 0 where
  pub hexadecimal : number_of (codes "0x1fF") ≡ Some 511
  pub decimal : number_of (codes "007") ≡ Some 7
  pub greatest : number_of (codes "18446744073709551615") ≡ Some 18446744073709551615
  pub too_great : number_of (codes "18446744073709551616") ≡ None
  pub no_digit : number_of (codes "0x") ≡ None
  pub too_many_digits : number_of (codes "0x00000000000000000") ≡ None
  pub empty : number_of [] ≡ None
  pub upper_prefix : number_of (codes "0X1") ≡ None

pub record OfEvents : Type 0 where
  pub machine : event_of (codes "machine 46 0") ≡ Ok (Some (event.Machine (machine_of 46 false)))
  pub width : event_of (codes "machine 31 0") ≡ Err Syntax
  pub big : event_of (codes "machine 46 2") ≡ Err Syntax
  pub cpu : event_of (codes "cpu 1 0x80050033 0x1006 0x370ee0 0xd01 0x40246 0x55555554 7") ≡ Ok (Some (event.Cpu 1
      (record { cr0 = 0x80050033; cr3 = 0x1006; cr4 = 0x370ee0; efer = 0xd01; ac = true; pkru = 0x55555554; pkrs = 7 })))
  pub key_register : event_of (codes "cpu 1 0 0 0 0 0 0x100000000 0") ≡ Err Syntax
  pub write : event_of (codes "write 0x4008 07fF") ≡ Ok (Some (event.Write 0x4008 (7 ∷ 255 ∷ [])))
  pub half_a_byte : event_of (codes "write 0x4008 070") ≡ Err Syntax
  pub no_byte : event_of (codes "write 0x4008 ") ≡ Err Syntax
  pub set : event_of (codes "set 0 cr4 0x20") ≡ Ok (Some (event.Set 0 (change.Cr4 0x20)))
  pub set_ac : event_of (codes "set 0 ac 1") ≡ Ok (Some (event.Set 0 (change.Ac true)))
  pub set_ac_to_2 : event_of (codes "set 0 ac 2") ≡ Err Syntax
  pub set_pkrs : event_of (codes "set 0 pkrs 4294967296") ≡ Err Syntax
  pub invlpg : event_of (codes "invlpg 0 0x1000") ≡ Ok (Some (event.Invlpg 0 0x1000))
  pub invpcid : event_of (codes "invpcid 0 4 5000 0x1000") ≡ Ok (Some (event.Invpcid 0 4 5000 0x1000))
  pub ask : event_of (codes "ask 0 sr 0x1234") ≡ Ok (Some (event.Ask 0 access.Sr 0x1234))
  pub list : event_of (codes "list 3") ≡ Ok (Some (event.List 3))
  pub point : event_of (codes "point all") ≡ Ok (Some (event.Point true))
  pub comment : event_of (codes "# ask") ≡ Ok None
  pub empty : event_of [] ≡ Ok None
  pub other_form : event_of (codes "fault 0 0x0") ≡ Err Syntax
  pub upper_case : event_of (codes "ask 0 SR 0x0") ≡ Err Syntax
  pub two_spaces : event_of (codes "ask 0  sr 0x0") ≡ Err Syntax
  pub space_at_end : event_of (codes "ask 0 sr 0x0 ") ≡ Err Syntax
  pub greatest_processor : event_of (codes "ask 4294967295 sr 0") ≡ Ok (Some (event.Ask 4294967295 access.Sr 0))
  pub processor_too_great : event_of (codes "ask 4294967296 sr 0") ≡ Err Syntax
