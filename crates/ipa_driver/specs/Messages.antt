-- The one message of a run that does not end with status 0.
use Rattle.std.specs.Prelude.{ℕ, ◌+◌, List, ◌++◌, ◌==◌, codes, if◌then◌else◌}
use Rattle.std.specs.Fmt.{decimal}
use Rattle.words.specs.Words.{bytes_of, usage_text}
use Rattle.gimple_ir.specs.declared.fault.Site.{Site}
use Rattle.gimple_ir.specs.declared.fault.Site.TheVariants.{Whole, Struct, Global, Statement}
use Rattle.gimple_text.specs.declared.fault.TextFault.{TextFault}
use Rattle.gimple_text.specs.declared.fault.TextFault.TheVariants.{BadByte, BadToken, EarlyEnd, Memory as TextMemory}
use Rattle.gimple_tokens.specs.declared.spot.Spot.{Spot}
use Rattle.ipa_driver.specs.declared.tool.Tool.{Tool}
use Rattle.ipa_driver.specs.declared.tool.Tool.TheVariants.{Optimiser, Runner}
use Rattle.ipa_driver.specs.declared.finish.Fault.{Fault}
use Rattle.ipa_driver.specs.declared.finish.Fault.TheVariants.{Usage, Read, Long, Text, Types, Write, Memory}

-- what a tool is called
abbrev pub tool_name : Tool → List ℕ
tool_name Optimiser = codes "gimple-ipa"
tool_name Runner = codes "gimple-run"

-- the line of want of memory
abbrev pub memory_line : Tool → List ℕ
memory_line tool = tool_name tool ++ codes ": error: out of memory\n"

-- structs, globals and functions count from 1 here
abbrev pub site_text : Site → List ℕ
site_text Whole = codes "program"
site_text (Struct k) = codes "struct " ++ decimal (k + 1)
site_text (Global k) = codes "global " ++ decimal (k + 1)
site_text (Statement function number) = codes "function " ++ decimal (function + 1) ++ codes " statement " ++ decimal number

-- the codes from 13 on
unfoldable pub last_type_text : ℕ → List ℕ
last_type_text code =
    if code == 13 then codes "T13 literal range"
    else (if code == 14 then codes "T14 store to read-only"
    else (if code == 15 then codes "T15 struct order"
    else (if code == 16 then codes "T16 return type"
    else codes "T17 switch case twice")))

-- the codes from 7 on
unfoldable pub later_type_text : ℕ → List ℕ
later_type_text code =
    if code == 7 then codes "T07 result use"
    else (if code == 8 then codes "T08 block label unknown"
    else (if code == 9 then codes "T09 label twice"
    else (if code == 10 then codes "T10 no blocks"
    else (if code == 11 then codes "T11 no slot"
    else (if code == 12 then codes "T12 size"
    else last_type_text code)))))

-- a type fault's code and text
unfoldable pub type_text : ℕ → List ℕ
type_text code =
    if code == 1 then codes "T01 unknown name"
    else (if code == 2 then codes "T02 name twice"
    else (if code == 3 then codes "T03 no main or wrong main"
    else (if code == 4 then codes "T04 operand type"
    else (if code == 5 then codes "T05 argument count"
    else (if code == 6 then codes "T06 argument type"
    else later_type_text code)))))

abbrev pub spot_text : Spot → List ℕ
spot_text spot = codes ":" ++ decimal spot.line ++ codes ":" ++ decimal spot.column

-- a text fault that never comes has the line of want of memory
abbrev pub text_message : Tool → List ℕ → TextFault → List ℕ
text_message tool input (BadByte spot) = input ++ spot_text spot ++ codes ": error: bad byte\n"
text_message tool input (BadToken spot) = input ++ spot_text spot ++ codes ": error: bad token\n"
text_message tool input (EarlyEnd spot) = input ++ spot_text spot ++ codes ": error: early end\n"
text_message tool input (TextMemory e) = memory_line tool

-- the message of a fault, by the tool and the input's name
abbrev pub message_of : Tool → List ℕ → List (List ℕ) → Fault → List ℕ
message_of tool input words (Usage f) = tool_name tool ++ codes ": word " ++ decimal f.word ++ codes ": error: " ++ usage_text f.code ++ codes "\n"
message_of tool input words Read = input ++ codes ": error: cannot read\n"
message_of tool input words Long = input ++ codes ": error: too long\n"
message_of tool input words (Text f) = text_message tool input f
message_of tool input words (Types f) = input ++ codes ": " ++ site_text f.site ++ codes ": error: " ++ type_text f.code ++ codes "\n"
message_of tool input words (Write name) = bytes_of words name ++ codes ": error: cannot write\n"
message_of tool input words Memory = memory_line tool
