-- What is told of a connection.
use Rattle.std.proofs.Common.{◌≡◌, refl, ℕ, List, [], Option, None, Some, IfSome, Result, Ok, Err}
use Rattle.minute_line.specs.declared.many.Memory.{Memory}
use Rattle.desk_keeper.specs.Tables.{Tables}
use Rattle.desk_http.specs.declared.answers.Answer.{Answer}
use Rattle.desk_http.specs.declared.serving.Served.{Served}
use Rattle.desk_http.specs.declared.serving.Served.TheVariants.{Status, ReadFault, WriteFault}
use Rattle.desk_http.specs.Answering.{Answers}
use Rattle.desk_http.specs.Serving.{AsksAs, StandsFor, Tells, TellsAnswer, Serves, bytes_of, status_of}

-- the answer to bytes that ask for the same
answers_as : (all request : List ℕ) (tables after : Option Tables) (said : Result Answer Memory) → AsksAs all request → Answers request tables said after
    → Answers all tables said after
answers_as all request tables after (Ok answer) same (asked, asks, answered) = (asked, same asked asks, answered)
answers_as all request tables after (Err memory) same stays = stays

tells_answer : (left : Option (List ℕ)) (request : List ℕ) (tables after : Option Tables) (held held_after : Option (List ℕ)) (said : Result Answer Memory) (served : Served)
    → StandsFor left request → Answers request tables said after → Tells (bytes_of said) (status_of said) served held held_after
    → (told : List ℕ) × IfSome left (λ all. told ≡ all) × TellsAnswer told tables after held held_after served
tells_answer None request tables after held held_after said served stands answers tells = (request, tt, (said, answers, tells))
tells_answer (Some all) request tables after held held_after said served stands answers tells =
    (all, refl, (said, answers_as all request tables after said stands answers, tells))

pub serves : (left : Option (List ℕ)) (request : List ℕ) (tables after : Option Tables) (held held_after : Option (List ℕ)) (said : Result Answer Memory) (served : Served)
    → StandsFor left request → Answers request tables said after → Tells (bytes_of said) (status_of said) served held held_after
    → Serves left tables after held held_after served
serves left request tables after held held_after said (Status n) stands answers tells = tells_answer left request tables after held held_after said (Status n) stands answers tells
serves left request tables after held held_after said WriteFault stands answers tells = tells_answer left request tables after held held_after said WriteFault stands answers tells
serves left request tables after held held_after said ReadFault stands answers tells = absurd tells

-- all that was left, where that is told
all_left : Option (List ℕ) → List ℕ
all_left None = []
all_left (Some all) = all

stands_itself : (left : Option (List ℕ)) → StandsFor left (all_left left)
unfolding all_left
stands_itself None = tt
stands_itself (Some all) = λ asked asks. asks

-- want of memory is told of any bytes
pub serves_memory : (left : Option (List ℕ)) (tables after : Option Tables) (held held_after : Option (List ℕ)) (memory : Memory) (served : Served)
    → after ≡ tables → Tells (bytes_of (Err memory)) 507 served held held_after → Serves left tables after held held_after served
serves_memory left tables after held held_after memory served stays tells =
    serves left (all_left left) tables after held held_after (Err memory) served (stands_itself left) stays tells
