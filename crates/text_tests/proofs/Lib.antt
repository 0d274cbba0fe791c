mod Worked
mod WorkedRounds
mod WorkedNeeds
mod WorkedPools
