-- Examples that pin the log and the core: their values were worked out by a program that isn't this project's code.
use Rattle.std.specs.Prelude.{◌≡◌, ◌*◌, [], ◌∷◌, ◌++◌, length, codes}
use Rattle.paging_model.specs.declared.access.Access.TheVariants as access
use Rattle.image_gen.specs.GeneratedTables.{page, slot}
use Rattle.image_gen.specs.GeneratedLog.{access_drawn, entry_by, next_state, numbered_line}
use Rattle.image_gen.specs.LineTexts.{generated_log, words_of_line}
use Rattle.image_gen.specs.GeneratedCore.{file_header, headers, machine_description, processor_description, program_header_bytes, memory_from, stands_at, state_note}
use Rattle.image_gen.specs.declared.lines.Line.TheVariants.{Point, LoseAll, List as ListOf, Write, Ask}

pub record OfLogs : Type 0 where
  pub seven : generated_log 7 6
      ≡ codes "invpcid 0 2 0 0x0"
      ++ 10 ∷ codes "invpcid 1 2 0 0x0"
      ++ 10 ∷ codes "invlpg 0 0xa74000"
      ++ 10 ∷ codes "write 0x13928 0350820000000000"
      ++ 10 ∷ codes "set 1 cr3 0x1000"
      ++ 10 ∷ codes "write 0x1d898 0330c10100000000" ++ 10 ∷ []
  pub six : generated_log 6 6
      ≡ codes "invpcid 0 2 0 0x0"
      ++ 10 ∷ codes "invpcid 1 2 0 0x0"
      ++ 10 ∷ codes "set 1 cr3 0x1000"
      ++ 10 ∷ codes "set 0 cr3 0x1000"
      ++ 10 ∷ codes "write 0x19f68 05d04e0100000000"
      ++ 10 ∷ codes "ask 0 sx 0x1adf000" ++ 10 ∷ []
  pub greatest_seed : generated_log 0x7fffffff 5
      ≡ codes "invpcid 0 2 0 0x0"
      ++ 10 ∷ codes "invpcid 1 2 0 0x0"
      ++ 10 ∷ codes "write 0x19430 0360380100000000"
      ++ 10 ∷ codes "write 0x12bc0 0000000000000000"
      ++ 10 ∷ codes "write 0x1e868 05d0e00100000000" ++ 10 ∷ []
  pub state : next_state 0x7fffffff ≡ 1043980748
  pub state_wraps : next_state 2 ≡ 59559187
  pub thousandth : numbered_line 1000 5 ≡ (Point, 5)
  pub after_a_thousand : numbered_line 1001 5 ≡ (LoseAll 0, 5)
  pub second_after : numbered_line 2002 5 ≡ (LoseAll 1, 5)
  pub middle : numbered_line 1500 5 ≡ (ListOf, 5)
  pub point : words_of_line Point ≡ codes "point current"
  pub list : words_of_line ListOf ≡ codes "list 0"
  pub ask : words_of_line (Ask 1 access.Ir 0) ≡ codes "ask 1 ir 0x0"
  pub write : words_of_line (Write 0x1fff8 0xabcdef0123456789) ≡ codes "write 0x1fff8 8967452301efcdab"
  pub everything : entry_by (page 15 511) 0 ≡ 0x20ff007
  pub no_write : entry_by (page 15 511) 1 ≡ 0x20ff005
  pub no_user : entry_by (page 1 0) 2 ≡ 0x300003
  pub absent : entry_by (page 1 0) 3 ≡ 0
  pub last_slot : slot 15 511 ≡ 0x1fff8
  pub last_kind : access_drawn (15 * 65536) ≡ access.Iw

pub record OfCores : Type 0 where
  pub file_header : length file_header ≡ 64
  pub program_header : length (program_header_bytes 1 384 1048576) ≡ 56
  pub machine : length (state_note 1 machine_description) ≡ 32
  pub processor : length (state_note 2 (processor_description 1)) ≡ 88
  pub headers : length headers ≡ 384
  pub root : stands_at 0x1000 ≡ 0x2007
  pub second : stands_at 0x2000 ≡ 0x3007
  pub first_table : stands_at 0x3000 ≡ 0x10007
  pub last_table : stands_at 0x3078 ≡ 0x1f007
  pub no_table : stands_at 0x3080 ≡ 0
  pub first_page : stands_at 0x10000 ≡ 0x100007
  pub other_page : stands_at 0x12018 ≡ 0x503007
  pub last_page : stands_at 0x1fff8 ≡ 0x20ff007
  pub no_page : stands_at 0x20000 ≡ 0
  pub start : stands_at 0 ≡ 0
  pub slots : memory_from 0xff8 3 ≡ 0 ∷ 0 ∷ 0 ∷ 0 ∷ 0 ∷ 0 ∷ 0 ∷ 0 ∷ 7 ∷ 0x20 ∷ 0 ∷ 0 ∷ 0 ∷ 0 ∷ 0 ∷ 0 ∷ 0 ∷ 0 ∷ 0 ∷ 0 ∷ 0 ∷ 0 ∷ 0 ∷ 0 ∷ []
