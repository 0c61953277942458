-- Worked scripts, and the text of each without the lines that a record begins with.
use Rattle.std.specs.Prelude.{ℕ, ◌*◌, ◌==◌, ℤ, pos, negsuc, List, [], ◌∷◌, ◌++◌, map, length, codes, replicate, if◌then◌else◌}
use Rattle.std.specs.List.{flat_map, range_with_len}
use Rattle.tact_base.specs.declared.conit_list.Need.{Need}
use Rattle.tact_base.specs.declared.conit_list.Weight.{Weight}
use Rattle.tact_base.specs.declared.write.Op.TheVariants as op
use Rattle.tact_base.specs.Setup.{Setup, setup}
use Rattle.run_model.specs.ScriptRuns.{not_played, lines_text, history_of}
use Rattle.run_model.specs.Text.{end_text}
use Rattle.run_model.specs.declared.script_line.Line.{Line}
use Rattle.run_model.specs.declared.script_line.Line.TheVariants as line

-- one alpha, and one loan to each other replica, for every owner and conit
abbrev pub even : ℕ → ℕ → ℕ → ℕ → Setup
even replicas conits alpha loan =
    setup replicas conits (replicate (replicas * conits) alpha)
    (flat_map (λ owner. flat_map (λ conit. map (λ holder. if holder == owner then 0 else loan) (range_with_len 0 replicas)) (range_with_len 0 conits)) (range_with_len 0 replicas))

-- the text of a script after the lines that a record begins with
abbrev pub text_of : Setup × List Line → List ℕ
text_of script = lines_text script.0 not_played script.1 ++ end_text (length (history_of script.0 script.1))

abbrev pub weight : ℕ → ℤ → ℕ → Weight
weight conit nweight oweight = record { conit = conit; nweight = nweight; oweight = oweight }

abbrev pub need : ℕ → ℕ → ℕ → ℕ → Need
need conit num order stale = record { conit = conit; num = num; order = order; stale = stale }

-- a write over the share waits, and names the peer
abbrev pub one_over_the_share : Setup × List Line
one_over_the_share = (
  even 3 1 10 5,
  line.Write 0 0 (op.Add 7 (pos 1)) (weight 0 (pos 5) 1 ∷ [])
      ∷ line.Write 0 0 (op.Add 7 (pos 1)) (weight 0 (pos 1) 1 ∷ []) ∷ [],
)

abbrev pub one_over_the_share_text : List ℕ
one_over_the_share_text =
    codes "e 0 0 call 0 0 write add 7 1 0:5:1 = done 0 1\n"
    ++ codes "e 0 0 call 0 1 write add 7 1 0:1:1 = wait-share 0 1 5 0 1 5\n"
    ++ codes "end 2\n"

-- after one peer has it, the wait is for the other
abbrev pub another_peer_still_misses : Setup × List Line
another_peer_still_misses = (
  even 3 1 10 5,
  line.Write 0 0 (op.Add 7 (pos 1)) (weight 0 (pos 5) 1 ∷ [])
      ∷ line.Write 0 0 (op.Add 7 (pos 1)) (weight 0 (pos 1) 1 ∷ [])
      ∷ line.Send 0 1 (0 ∷ 0 ∷ 0 ∷ [])
      ∷ line.Take 1 0 0
      ∷ line.Send 1 0 (0 ∷ 0 ∷ 0 ∷ [])
      ∷ line.Take 0 1 0
      ∷ line.Write 0 0 (op.Add 7 (pos 1)) (weight 0 (pos 1) 1 ∷ []) ∷ [],
)

abbrev pub another_peer_still_misses_text : List ℕ
another_peer_still_misses_text =
    codes "e 0 0 call 0 0 write add 7 1 0:5:1 = done 0 1\n"
    ++ codes "e 0 0 call 0 1 write add 7 1 0:1:1 = wait-share 0 1 5 0 1 5\n"
    ++ codes "e 0 0 send 1 0 0 0 0\n"
    ++ codes "e 1 0 take 0 0\n"
    ++ codes "e 1 0 send 0 0 1 0 0\n"
    ++ codes "e 0 0 take 1 0\n"
    ++ codes "e 0 0 call 0 2 write add 7 1 0:1:1 = wait-share 0 2 5 0 1 5\n"
    ++ codes "end 7\n"

-- a weight that passes the share alone
abbrev pub too_heavy : Setup × List Line
too_heavy = (
  even 3 1 10 5,
  line.Write 0 0 (op.Add 7 (pos 1)) (weight 0 (pos 6) 1 ∷ []) ∷ [],
)

abbrev pub too_heavy_text : List ℕ
too_heavy_text =
    codes "e 0 0 call 0 0 write add 7 1 0:6:1 = too-heavy 0 1 6 5\n"
    ++ codes "end 1\n"

-- positive and negative weights are summed apart
abbrev pub signs : Setup × List Line
signs = (
  even 3 1 10 5,
  line.Write 0 0 (op.Add 7 (pos 1)) (weight 0 (pos 5) 1 ∷ [])
      ∷ line.Send 0 2 (0 ∷ 0 ∷ 0 ∷ [])
      ∷ line.Write 0 0 (op.Add 7 (pos 1)) (weight 0 (negsuc 4) 1 ∷ [])
      ∷ line.Write 0 0 (op.Add 7 (pos 1)) (weight 0 (pos 1) 1 ∷ [])
      ∷ line.Read 2 0 7 (need 0 10 9 9 ∷ [])
      ∷ line.Take 2 0 0
      ∷ line.Read 2 0 7 (need 0 10 9 9 ∷ [])
      ∷ line.Ref 0 ∷ [],
)

abbrev pub signs_text : List ℕ
signs_text =
    codes "e 0 0 call 0 0 write add 7 1 0:5:1 = done 0 1\n"
    ++ codes "e 0 0 send 2 0 0 0 0\n"
    ++ codes "e 0 0 call 0 1 write add 7 1 0:-5:1 = done 1 2\n"
    ++ codes "e 0 0 call 0 2 write add 7 1 0:1:1 = wait-share 0 1 5 0 1 5\n"
    ++ codes "e 2 0 call 0 0 read 7 0:10:9:9 = value 0 0\n"
    ++ codes "# need 0 num 0/10 order 0/9 stale 0/9\n"
    ++ codes "e 2 0 take 0 0\n"
    ++ codes "e 2 0 call 0 1 read 7 0:10:9:9 = value 1 5\n"
    ++ codes "# need 0 num 5/10 order 1/9 stale 0/9\n"
    ++ codes "# ref 0 0\n"
    ++ codes "end 7\n"

-- a message that is taken again changes nothing
abbrev pub a_repeat : Setup × List Line
a_repeat = (
  even 2 1 10 10,
  line.Write 0 0 (op.Add 7 (pos 1)) (weight 0 (pos 5) 1 ∷ [])
      ∷ line.Send 0 1 (0 ∷ 0 ∷ [])
      ∷ line.Take 1 0 0
      ∷ line.Show 1
      ∷ line.At 3
      ∷ line.Take 1 0 0
      ∷ line.Show 1 ∷ [],
)

abbrev pub a_repeat_text : List ℕ
a_repeat_text =
    codes "e 0 0 call 0 0 write add 7 1 0:5:1 = done 0 1\n"
    ++ codes "e 0 0 send 1 0 0 0\n"
    ++ codes "e 1 0 take 0 0\n"
    ++ codes "# show 1 have 1 0 clock 1 point 1 committed 1 last 0.0 tentative 0\n"
    ++ codes "e 1 3 take 0 0\n"
    ++ codes "# show 1 have 1 0 clock 1 point 1 committed 1 last 0.0 tentative 0\n"
    ++ codes "end 4\n"

-- a batch over a gap adds nothing, and its cover isn't kept
abbrev pub a_gap : Setup × List Line
a_gap = (
  even 2 1 100 100,
  line.Write 0 0 (op.Add 7 (pos 1)) []
      ∷ line.Send 0 1 (0 ∷ 0 ∷ [])
      ∷ line.Write 0 0 (op.Add 7 (pos 1)) []
      ∷ line.Write 0 0 (op.Add 7 (pos 1)) []
      ∷ line.Send 0 1 (2 ∷ 0 ∷ [])
      ∷ line.Take 1 0 0
      ∷ line.Take 1 0 1
      ∷ line.Show 1 ∷ [],
)

abbrev pub a_gap_text : List ℕ
a_gap_text =
    codes "e 0 0 call 0 0 write add 7 1 = done 0 1\n"
    ++ codes "e 0 0 send 1 0 0 0\n"
    ++ codes "e 0 0 call 0 1 write add 7 1 = done 1 2\n"
    ++ codes "e 0 0 call 0 2 write add 7 1 = done 2 3\n"
    ++ codes "e 0 0 send 1 1 2 0\n"
    ++ codes "e 1 0 take 0 0\n"
    ++ codes "e 1 0 take 0 1\n"
    ++ codes "# show 1 have 1 0 clock 3 point 1 committed 1 last 0.0 tentative 0\n"
    ++ codes "end 7\n"

-- an acknowledgement that comes after a newer one takes nothing back
abbrev pub an_old_acknowledgement : Setup × List Line
an_old_acknowledgement = (
  even 2 1 10 10,
  line.Write 0 0 (op.Add 7 (pos 1)) (weight 0 (pos 10) 1 ∷ [])
      ∷ line.Send 1 0 (0 ∷ 0 ∷ [])
      ∷ line.Send 0 1 (0 ∷ 0 ∷ [])
      ∷ line.Take 1 0 0
      ∷ line.Send 1 0 (0 ∷ 0 ∷ [])
      ∷ line.Take 0 1 1
      ∷ line.Take 0 1 0
      ∷ line.Write 0 0 (op.Add 7 (pos 1)) (weight 0 (pos 10) 1 ∷ []) ∷ [],
)

abbrev pub an_old_acknowledgement_text : List ℕ
an_old_acknowledgement_text =
    codes "e 0 0 call 0 0 write add 7 1 0:10:1 = done 0 1\n"
    ++ codes "e 1 0 send 0 0 0 0\n"
    ++ codes "e 0 0 send 1 0 0 0\n"
    ++ codes "e 1 0 take 0 0\n"
    ++ codes "e 1 0 send 0 1 1 0\n"
    ++ codes "e 0 0 take 1 1\n"
    ++ codes "e 0 0 take 1 0\n"
    ++ codes "e 0 0 call 0 1 write add 7 1 0:10:1 = done 1 2\n"
    ++ codes "end 8\n"

-- writes of one stamp are ordered by origin
abbrev pub equal_stamps : Setup × List Line
equal_stamps = (
  even 2 1 10 10,
  line.Write 0 0 (op.Put 1 (pos 5)) []
      ∷ line.Write 1 0 (op.Put 1 (pos 6)) []
      ∷ line.Sync 0 1
      ∷ line.Show 0
      ∷ line.Show 1
      ∷ line.Read 0 0 1 []
      ∷ line.Read 1 0 1 [] ∷ [],
)

abbrev pub equal_stamps_text : List ℕ
equal_stamps_text =
    codes "e 0 0 call 0 0 write put 1 5 = done 0 1\n"
    ++ codes "e 1 0 call 0 0 write put 1 6 = done 0 1\n"
    ++ codes "e 0 0 send 1 0 0 0\n"
    ++ codes "e 1 0 take 0 0\n"
    ++ codes "e 1 0 send 0 0 1 0\n"
    ++ codes "e 0 0 take 1 0\n"
    ++ codes "# show 0 have 1 1 clock 1 point 1 committed 2 last 1.0 tentative 0\n"
    ++ codes "# show 1 have 1 1 clock 1 point 1 committed 2 last 1.0 tentative 0\n"
    ++ codes "e 0 0 call 0 1 read 1 = value 6\n"
    ++ codes "e 1 0 call 0 1 read 1 = value 6\n"
    ++ codes "end 8\n"

-- an earlier write that comes later is applied before
abbrev pub rollback : Setup × List Line
rollback = (
  even 3 1 10 5,
  line.Write 0 0 (op.Add 1 (pos 5)) []
      ∷ line.Write 1 0 (op.Shift 1 2 5) []
      ∷ line.Read 1 0 2 []
      ∷ line.Send 0 1 (0 ∷ 0 ∷ 0 ∷ [])
      ∷ line.Take 1 0 0
      ∷ line.Read 1 0 2 [] ∷ [],
)

abbrev pub rollback_text : List ℕ
rollback_text =
    codes "e 0 0 call 0 0 write add 1 5 = done 0 1\n"
    ++ codes "e 1 0 call 0 0 write shift 1 2 5 = done 0 1\n"
    ++ codes "e 1 0 call 0 1 read 2 = value 0\n"
    ++ codes "e 0 0 send 1 0 0 0 0\n"
    ++ codes "e 1 0 take 0 0\n"
    ++ codes "e 1 0 call 0 2 read 2 = value 5\n"
    ++ codes "end 6\n"

-- tentative order weight at its bound and past it
abbrev pub order_bound : Setup × List Line
order_bound = (
  even 3 1 10 5,
  line.Write 0 0 (op.Add 1 (pos 1)) (weight 0 (pos 1) 4 ∷ [])
      ∷ line.Read 0 0 1 (need 0 10 4 0 ∷ [])
      ∷ line.Read 0 0 1 (need 0 10 3 0 ∷ []) ∷ [],
)

abbrev pub order_bound_text : List ℕ
order_bound_text =
    codes "e 0 0 call 0 0 write add 1 1 0:1:4 = done 0 1\n"
    ++ codes "e 0 0 call 0 1 read 1 0:10:4:0 = value 1 1\n"
    ++ codes "# need 0 num 0/10 order 4/4 stale 0/0\n"
    ++ codes "e 0 0 call 0 2 read 1 0:10:3:0 = wait-order 0 1 4 3\n"
    ++ codes "end 3\n"

-- a cover at the wanted moment and before it
abbrev pub staleness : Setup × List Line
staleness = (
  even 2 1 10 10,
  line.At 5
      ∷ line.Read 0 0 1 (need 0 10 0 9 ∷ [])
      ∷ line.At 100
      ∷ line.Send 1 0 (0 ∷ 0 ∷ [])
      ∷ line.Take 0 1 0
      ∷ line.At 110
      ∷ line.Read 0 0 1 (need 0 10 0 10 ∷ [])
      ∷ line.Read 0 0 1 (need 0 10 0 9 ∷ []) ∷ [],
)

abbrev pub staleness_text : List ℕ
staleness_text =
    codes "e 0 5 call 0 0 read 1 0:10:0:9 = value 0 0\n"
    ++ codes "# need 0 num 0/10 order 0/0 stale 0/9\n"
    ++ codes "e 1 100 send 0 0 0 0\n"
    ++ codes "e 0 100 take 1 0\n"
    ++ codes "e 0 110 call 0 1 read 1 0:10:0:10 = value 0 0\n"
    ++ codes "# need 0 num 0/10 order 0/0 stale 0/10\n"
    ++ codes "e 0 110 call 0 2 read 1 0:10:0:9 = wait-stale 0 1 100 101\n"
    ++ codes "end 5\n"

-- a return counts once it is told, by whichever message
abbrev pub a_lost_return : Setup × List Line
a_lost_return = (
  even 3 1 10 5,
  line.Read 0 0 1 (need 0 9 0 0 ∷ [])
      ∷ line.Back 1 0 0 1
      ∷ line.Send 1 0 (0 ∷ 0 ∷ 0 ∷ [])
      ∷ line.Read 0 0 1 (need 0 9 0 0 ∷ [])
      ∷ line.Send 1 0 (0 ∷ 0 ∷ 0 ∷ [])
      ∷ line.Take 0 1 1
      ∷ line.Read 0 0 1 (need 0 9 0 0 ∷ []) ∷ [],
)

abbrev pub a_lost_return_text : List ℕ
a_lost_return_text =
    codes "e 0 0 call 0 0 read 1 0:9:0:0 = wait-lent 0 1 5 10 9\n"
    ++ codes "e 1 0 back 0 0 1\n"
    ++ codes "e 1 0 send 0 0 0 0 0\n"
    ++ codes "e 0 0 call 0 1 read 1 0:9:0:0 = wait-lent 0 1 5 10 9\n"
    ++ codes "e 1 0 send 0 1 0 0 0\n"
    ++ codes "e 0 0 take 1 1\n"
    ++ codes "e 0 0 call 0 2 read 1 0:9:0:0 = value 0 0\n"
    ++ codes "# need 0 num 0/9 order 0/0 stale 0/0\n"
    ++ codes "end 7\n"

-- loans and returns over their limits make no entry
abbrev pub loans : Setup × List Line
loans = (
  even 2 1 10 4,
  line.Lend 0 1 0 7
      ∷ line.Lend 0 1 0 6
      ∷ line.Lend 0 1 0 1
      ∷ line.Back 1 0 0 5 ∷ [],
)

abbrev pub loans_text : List ℕ
loans_text =
    codes "# lend 0 1 0 7 home 6\n"
    ++ codes "e 0 0 lend 1 0 6\n"
    ++ codes "# lend 0 1 0 1 home 0\n"
    ++ codes "# back 1 0 0 5 free 4\n"
    ++ codes "end 1\n"

-- what is reserved is kept, spent and given back
abbrev pub allowances : Setup × List Line
allowances = (
  even 2 1 10 10,
  line.Reserve 0 0 0 10
      ∷ line.Write 0 0 (op.Add 7 (pos 1)) (weight 0 (pos 1) 1 ∷ [])
      ∷ line.Held 0 0 (op.Add 7 (pos 1)) (weight 0 (pos 10) 1)
      ∷ line.Write 0 0 (op.Add 7 (pos 1)) (weight 0 (pos 1) 1 ∷ [])
      ∷ line.Held 0 0 (op.Add 7 (pos 1)) (weight 0 (pos 1) 1)
      ∷ line.Release 0 0 0 1 ∷ [],
)

abbrev pub allowances_text : List ℕ
allowances_text =
    codes "e 0 0 call 0 0 reserve 0 10 = granted\n"
    ++ codes "e 0 0 call 0 1 write add 7 1 0:1:1 = wait-held 0 1 10 1 10\n"
    ++ codes "e 0 0 call 0 2 held add 7 1 0:10:1 = done 0 1\n"
    ++ codes "e 0 0 call 0 3 write add 7 1 0:1:1 = wait-share 0 1 10 0 1 10\n"
    ++ codes "e 0 0 call 0 4 held add 7 1 0:1:1 = not-held 0 0 1\n"
    ++ codes "e 0 0 call 0 5 release 0 1 = not-held 0 0 1\n"
    ++ codes "end 6\n"

-- what is lent at the opening bounds a read
abbrev pub admission_of_one_replica : Setup × List Line
admission_of_one_replica = (
  even 3 1 10 5,
  line.Read 1 0 1 (need 0 9 0 0 ∷ [])
      ∷ line.Read 1 0 1 (need 0 10 0 0 ∷ []) ∷ [],
)

abbrev pub admission_of_one_replica_text : List ℕ
admission_of_one_replica_text =
    codes "e 1 0 call 0 0 read 1 0:9:0:0 = wait-lent 0 0 5 10 9\n"
    ++ codes "e 1 0 call 0 1 read 1 0:10:0:0 = value 0 0\n"
    ++ codes "# need 0 num 0/10 order 0/0 stale 0/0\n"
    ++ codes "end 2\n"

-- two conits, of which each owner lends another part of another alpha
abbrev pub two_conits : Setup × List Line
two_conits = (
  setup 2 2 (10 ∷ 20 ∷ 6 ∷ 3 ∷ []) (0 ∷ 4 ∷ 0 ∷ 7 ∷ 6 ∷ 0 ∷ 2 ∷ 0 ∷ []),
  line.Write 0 0 (op.Add 7 (pos 1)) (weight 0 (pos 6) 2 ∷ weight 1 (negsuc 1) 1 ∷ [])
      ∷ line.Write 0 0 (op.Add 7 (pos 1)) (weight 0 (negsuc 5) 0 ∷ weight 1 (negsuc 0) 1 ∷ [])
      ∷ line.Write 1 0 (op.Add 7 (pos 1)) (weight 0 (pos 5) 1 ∷ [])
      ∷ line.Lend 0 1 0 6
      ∷ line.Read 0 1 7 (need 0 10 2 0 ∷ need 1 7 1 0 ∷ [])
      ∷ line.Send 0 1 (0 ∷ 0 ∷ [])
      ∷ line.Take 1 0 0
      ∷ line.Write 1 0 (op.Add 7 (pos 1)) (weight 0 (pos 5) 1 ∷ [])
      ∷ line.Read 1 0 7 (need 0 6 5 0 ∷ need 1 2 1 0 ∷ [])
      ∷ line.Back 1 0 0 6
      ∷ line.Back 1 0 0 5
      ∷ line.Ref 1 ∷ [],
)

abbrev pub two_conits_text : List ℕ
two_conits_text =
    codes "e 0 0 call 0 0 write add 7 1 0:6:2 1:-2:1 = done 0 1\n"
    ++ codes "e 0 0 call 0 1 write add 7 1 0:-6:0 1:-1:1 = wait-share 1 1 2 0 1 2\n"
    ++ codes "e 1 0 call 0 0 write add 7 1 0:5:1 = too-heavy 0 0 5 4\n"
    ++ codes "e 0 0 lend 1 0 6\n"
    ++ codes "e 0 0 call 1 0 read 7 0:10:2:0 1:7:1:0 = value 1 6 -2\n"
    ++ codes "# need 0 num 0/10 order 2/2 stale 0/0\n"
    ++ codes "# need 1 num 0/7 order 1/1 stale 0/0\n"
    ++ codes "e 0 0 send 1 0 0 0\n"
    ++ codes "e 1 0 take 0 0\n"
    ++ codes "e 1 0 call 0 1 write add 7 1 0:5:1 = done 0 2\n"
    ++ codes "e 1 0 call 0 2 read 7 0:6:5:0 1:2:1:0 = value 2 11 -2\n"
    ++ codes "# need 0 num 0/6 order 1/5 stale 0/0\n"
    ++ codes "# need 1 num 0/2 order 0/1 stale 0/0\n"
    ++ codes "# back 1 0 0 6 free 5\n"
    ++ codes "e 1 0 back 0 0 5\n"
    ++ codes "# ref 1 -2\n"
    ++ codes "end 10\n"

-- a restart changes nothing but the count of entries
abbrev pub restarts : Setup × List Line
restarts = (
  even 2 1 0 0,
  line.At 5
      ∷ line.Restart 0
      ∷ line.At 4
      ∷ line.Restart 0
      ∷ line.Show 0 ∷ [],
)

abbrev pub restarts_text : List ℕ
restarts_text =
    codes "e 0 5 restart\n"
    ++ codes "e 0 5 restart\n"
    ++ codes "# show 0 have 0 0 clock 0 point 0 committed 0 last none tentative 0\n"
    ++ codes "end 2\n"
