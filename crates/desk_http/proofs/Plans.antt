-- A week that is planned with 200 is told by the report of a lawful plan.
use Rattle.std.proofs.Common.{◌≡◌, ◌∙◌, inl, inr, sym, ap, subst, ℕ, ◌<◌, List, ◌++◌, length, Option, IfSome, Result, Ok, Err, IfOk, arith}
use Rattle.httparse.specs.Grammar.{RequestHead}
use Rattle.httparse.proofs.GrammarLemmas.{request_unique}
use Rattle.minute_line.specs.declared.many.Memory.{Memory}
use Rattle.desk_io.specs.Device.{Takes}
use Rattle.desk_keeper.specs.Tables.{Tables}
use Rattle.desk_core.specs.declared.commands.Command.{Command}
use Rattle.desk_core.specs.declared.commands.Command.TheVariants as ask
use Rattle.desk_core.specs.declared.commands.Reply.{Reply}
use Rattle.desk_core.specs.declared.commands.Reply.TheVariants as reply
use Rattle.desk_core.specs.declared.refusals.Refusal.{Refusal}
use Rattle.desk_core.specs.declared.refusals.Refusal.TheVariants as because
use Rattle.desk_core.specs.Answering.{IsAnswer, IsPlannedWeek}
use Rattle.desk_http.specs.declared.answers.Answer.{Answer}
use Rattle.desk_http.specs.declared.answers.Kind.TheVariants.{Done}
use Rattle.desk_http.specs.declared.early.Early.{Early}
use Rattle.desk_http.specs.declared.serving.Served.{Served}
use Rattle.desk_http.specs.declared.serving.Served.TheVariants.{Status, ReadFault, WriteFault}
use Rattle.desk_http.specs.Answers.{code_of, head_text, HasBody}
use Rattle.desk_http.specs.Answering.{undrafted_kind, refused_kind, IsReplied, IsAnswered, IsAnswerTo, PlansWeek, Answers}
use Rattle.desk_words.specs.Asks.{usual_limits}
use Rattle.desk_http.specs.Requests.{asked_by, Asks}
use Rattle.desk_http.specs.Serving.{Serves, TellsPlan, bytes_of, status_of}
use Rattle.desk_http.proofs.Stays.{same_asks}

-- a request asks for one thing
asks_one : (request : List ℕ) (one two : Result Command Early) → Asks request one → Asks request two → one ≡ two
asks_one request one two (inl (head, rest, has, is)) (inl (other, left, also, are)) =
    let same = request_unique request head other rest left has.reads also.reads in
    is ∙ (ap (λ (h : RequestHead). asked_by h rest) same.0 ∙ (ap (asked_by other) same.1 ∙ sym are))
asks_one request one two (inl (head, rest, has, is)) (inr (nowhere, are)) = absurd (nowhere head rest has)
asks_one request one two (inr (nowhere, is)) (inl (head, rest, has, are)) = absurd (nowhere head rest has)
asks_one request one two (inr (nowhere, is)) (inr (never, are)) = is ∙ sym are

undrafted_status : (command : Command) → 200 < code_of (undrafted_kind command)
undrafted_status (ask.Plan text limits) = omega arith
undrafted_status (ask.Check text) = omega arith
undrafted_status (ask.Publish monday revision) = omega arith
undrafted_status (ask.Show monday) = omega arith
undrafted_status (ask.Export monday) = omega arith

refused_status : (command : Command) (refusal : Refusal) → 200 < code_of (refused_kind command refusal)
refused_status command because.Long = omega arith
refused_status command (because.Csv error) = omega arith
refused_status command (because.Week error) = omega arith
refused_status command (because.Past name error) = omega arith
refused_status command (because.Line name error) = omega arith
refused_status command (because.Published monday receipt) = omega arith
refused_status command (because.NoDraft monday) = undrafted_status command
refused_status command (because.Stale named now) = omega arith
refused_status command (because.Moved name) = omega arith
refused_status command (because.Kept name) = omega arith
refused_status command (because.Later name monday) = omega arith
refused_status command (because.NoHistory name) = omega arith
refused_status command (because.DraftsFull monday) = omega arith

replied_plan : (text : List ℕ) (said : Reply) (answer : Answer) → IsAnswer (ask.Plan text usual_limits) said → IsReplied (ask.Plan text usual_limits) said answer
    → answer.status ≡ 200 → (report : List ℕ) × IsPlannedWeek usual_limits text report × HasBody Done report answer
replied_plan text (reply.Done report) answer caused replied done = (report, caused, replied)
replied_plan text (reply.Refused refusal) answer caused (line, is, has) done =
    let more = refused_status (ask.Plan text usual_limits) refusal in
    let status : code_of (refused_kind (ask.Plan text usual_limits) refusal) ≡ 200 = sym has.status ∙ done in absurd (omega (arith, more, status))
replied_plan text reply.KeeperFault answer caused has done =
    let status : 503 ≡ 200 = sym has.status ∙ done in absurd (omega (arith, status))
replied_plan text reply.Memory answer caused replied done = absurd replied

answered_plan : (asked : Result Command Early) (text : List ℕ) (before after : Option Tables) (answer : Answer) → asked ≡ Ok (ask.Plan text usual_limits)
    → IsAnswered asked before answer after → answer.status ≡ 200 → (report : List ℕ) × IsPlannedWeek usual_limits text report × HasBody Done report answer
answered_plan asked text before after answer is answered done =
    let here = subst (λ (a : Result Command Early). IsAnswered a before answer after) is answered in replied_plan text here.0 answer here.2 here.3 done

plans_week : (request : List ℕ) (before after : Option Tables) (answer : Answer) → IsAnswerTo request before answer after → PlansWeek request answer
plans_week request before after answer (asked, asks, answered) text plans done =
    answered_plan asked text before after answer (asks_one request asked (Ok (ask.Plan text usual_limits)) asks plans) answered done

pub plans_result : (request : List ℕ) (before after : Option Tables) (result : Result Answer Memory) → Answers request before result after → IfOk result (PlansWeek request)
plans_result request before after (Ok answer) answers = plans_week request before after answer answers
plans_result request before after (Err memory) answers = tt

same_status : (one two : ℕ) → ◌≡◌ {A = Served} (Status one) (Status two) → one ≡ two
same_status one two is = cc

no_status : (n : ℕ) → ◌≡◌ {A = Served} WriteFault (Status n) → ⊥
no_status n is = cc

unread_status : (n : ℕ) → ◌≡◌ {A = Served} ReadFault (Status n) → ⊥
unread_status n is = cc

take_both : (held held_after : Option (List ℕ)) (head other body same : List ℕ) → head ≡ other → body ≡ same → Takes held (head ++ body) held_after
    → Takes held (other ++ same) held_after
take_both held held_after head other body same one two took =
    subst (λ (b : List ℕ). Takes held b held_after) (ap (λ (h : List ℕ). h ++ body) one ∙ ap (λ (b : List ℕ). other ++ b) two) took

told_plan : (request text : List ℕ) (status : ℕ) (tables after : Option Tables) (held held_after : Option (List ℕ)) (said : Result Answer Memory)
    → Answers request tables said after → Asks request (Ok (ask.Plan text usual_limits)) → status ≡ 200
    → (status ≡ status_of said) × Takes held (bytes_of said) held_after
    → (report : List ℕ) × IsPlannedWeek usual_limits text report × Takes held (head_text Done (length report) ++ report) held_after
told_plan request text status tables after held held_after (Ok answer) answers plans done (told, took) =
    let found = plans_week request tables after answer answers text plans (sym told ∙ done) in
    (found.0, found.1, take_both held held_after answer.head (head_text Done (length found.0)) answer.body found.0 found.2.head found.2.body took)
told_plan request text status tables after held held_after (Err memory) answers plans done (told, took) = absurd (omega (arith, told, done))

pub tells_plan : (left : Option (List ℕ)) (tables after : Option Tables) (held held_after : Option (List ℕ)) (served : Served)
    → Serves left tables after held held_after served → TellsPlan left held held_after served
tells_plan left tables after held held_after (Status n) (request, same, (said, answers, tells)) all text is asks done =
    let here : request ≡ all = subst (λ (o : Option (List ℕ)). IfSome o (λ a. request ≡ a)) is same in
    told_plan request text n tables after held held_after said answers (same_asks request all here (Ok (ask.Plan text usual_limits)) asks) (same_status n 200 done) tells
tells_plan left tables after held held_after WriteFault served all text is asks done = absurd (no_status 200 done)
tells_plan left tables after held held_after ReadFault served all text is asks done = absurd (unread_status 200 done)
