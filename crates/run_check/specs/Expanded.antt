-- The entries of a record made whole: a record leaves out what follows from the entries before.
use Rattle.std.specs.Prelude.{ℕ, List, [], ◌++◌, fold, Option, Some}
use Rattle.std.specs.List.{slice_get, cons_option}
use Rattle.std.specs.Option.{option_map}
use Rattle.tact_base.specs.Setup.{Setup}
use Rattle.run_model.specs.Histories.{part_of, sent_in}
use Rattle.run_model.specs.Messages.{message_of}
use Rattle.run_model.specs.declared.entry.Act.{Act}
use Rattle.run_model.specs.declared.entry.Act.TheVariants as act
use Rattle.run_model.specs.declared.entry.Entry.{Entry}
use Rattle.run_model.specs.declared.entry.Message.{Message}
use Rattle.run_record.specs.declared.short.Short.{Short}
use Rattle.run_record.specs.declared.short.ShortAct.{ShortAct}
use Rattle.run_record.specs.declared.short.ShortAct.TheVariants.{Call, Send, Take, Lend, Back, Restart}

-- the message that one sent under a number, if it did
abbrev pub message_sent : List Entry → ℕ → ℕ → Option Message
message_sent history from number = slice_get (sent_in (part_of history from)) number

-- What an act of a replica is after a history, at a moment: a sent message is the one that is due where these firsts
-- are given, a taken one the one that was sent under that number. There is none where no such message was sent.
abbrev pub whole_act : Setup → List Entry → ℕ → ℕ → ShortAct → Option Act
whole_act setup history replica moment (Call client number request reply) = Some (act.Call client number request reply)
whole_act setup history replica moment (Send to number firsts) = Some (act.Send (message_of setup replica (part_of history replica) moment to firsts))
whole_act setup history replica moment (Take from number) = option_map act.Take (message_sent history from number)
whole_act setup history replica moment (Lend to conit amount) = Some (act.Lend to conit amount)
whole_act setup history replica moment (Back owner conit amount) = Some (act.Back owner conit amount)
whole_act setup history replica moment Restart = Some act.Restart

-- what an entry is after a history
abbrev pub entry_with : ℕ → ℕ → Act → Entry
entry_with replica moment done = record { replica = replica; moment = moment; act = done }

abbrev pub whole_entry : Setup → List Entry → Short → Option Entry
whole_entry setup history short =
    option_map (entry_with short.replica short.moment) (whole_act setup history short.replica short.moment short.act)

-- a history with one more entry of a record
abbrev pub with_short : Setup → List Entry → Short → List Entry
with_short setup history short = history ++ cons_option (whole_entry setup history short) []

-- the history that the entries of a record tell, one after another
abbrev pub expanded : Setup → List Short → List Entry
expanded setup shorts = fold (with_short setup) [] shorts
